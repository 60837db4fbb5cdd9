use Rattle.std.proofs.Common.{◌≡◌, ◌++◌, drop}
use Rattle.std.specs.Prelude.{filter_map}
use Rattle.sc_plan.specs.Lookups.{entry_in}
use Rattle.sc_plan.proofs.lookups.entries_of.Given as goal

abbrev pub invariant-loop-line : goal.invariant-loop-line
invariant-loop-line l =
    l.entries.items ++ filter_map (entry_in l.sought) (drop l.line-index l.lines)
    ≡ filter_map (entry_in l.sought) l.lines
