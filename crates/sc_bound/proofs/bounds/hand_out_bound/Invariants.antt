use Rattle.std.proofs.Common.{◌≡◌, ◌≤◌, ◌*◌, take}
use Rattle.std.specs.List.{sum_by}
use Rattle.sc_bound.proofs.bounds.hand_out_bound.Given as goal

abbrev pub invariant-loop-stage : goal.invariant-loop-stage
invariant-loop-stage l =
    (l.total ≡ sum_by (λ stage. stage.tasks * l.each) (take l.stage-index l.stages))
    × (l.total ≤ l.stage-index * 36028797018963968)
