use Rattle.std.proofs.Common.{◌≡◌, map}
use Rattle.sc_base.specs.Lists.{numbers_below}
use Rattle.sc_desk.specs.DeskData.{core_of}
use Rattle.sc_context.specs.Starts.{seen_store}
use Rattle.sc_context.proofs.starts.stores_at.Given as goal

abbrev pub invariant-loop-exec : goal.invariant-loop-exec
invariant-loop-exec g l =
    l.stores.items
    ≡ map (seen_store g.W.Naming.work (core_of l.desk).dag.tracker) (numbers_below l.exec)
