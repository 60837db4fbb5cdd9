use Rattle.std.proofs.Common.{◌≡◌, ◌++◌, map, take}
use Rattle.sc_lines.specs.Halves.{moved}
use Rattle.sc_lines.proofs.halves.append_moved.Given as goal

abbrev pub invariant-loop-span : goal.invariant-loop-span
invariant-loop-span l =
    l.spans.items ≡ l.fn.spans.items ++ map (moved l.by) (take l.span-index l.more)
