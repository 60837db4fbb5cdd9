use Rattle.sc_context.specs.Bounding.{GoesOn}
use Rattle.sc_context.proofs.BoundLemmas.{places_left}
use Rattle.sc_context.proofs.context.Context.find_all_bounds.Given as goal

abbrev pub invariant-loop-sort : goal.invariant-loop-sort
invariant-loop-sort g l = GoesOn g.W.Naming.work l.fn.self l.context

abbrev pub decreases-loop-sort : goal.decreases-loop-sort
decreases-loop-sort g l = places_left l.context.progress.carried.bounds
