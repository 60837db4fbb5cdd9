use Rattle.std.proofs.Common.{ℕ, ◌<◌}
use Rattle.sc_stagecut.specs.Carrying.{LacksBounds}
use Rattle.sc_stagecut.proofs.sorts.unbounded_sort.Given as goal

abbrev pub invariant-loop-sort : goal.invariant-loop-sort
invariant-loop-sort l =
    (k : ℕ) → k < l.sort → LacksBounds l.work.script.nodes l.carried l.node k → ⊥
