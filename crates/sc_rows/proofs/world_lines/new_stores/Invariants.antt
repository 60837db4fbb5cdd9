use Rattle.std.proofs.Common.{◌≡◌, map}
use Rattle.sc_base.specs.Lists.{numbers_below}
use Rattle.sc_context.specs.Starts.{new_store}
use Rattle.sc_rows.proofs.world_lines.new_stores.Given as goal

abbrev pub invariant-loop-exec : goal.invariant-loop-exec
invariant-loop-exec g l =
    l.stores.items ≡ map (new_store g.W.Naming.work) (numbers_below l.exec)
