use Rattle.std.proofs.Common.{◌≡◌, ◌++◌, map, take, drop}
use Rattle.sc_dag.specs.Changes.{attempt_by}
use Rattle.sc_dag.proofs.attempts.change_each.Given as goal

abbrev pub invariant-loop-attempt : goal.invariant-loop-attempt
invariant-loop-attempt l =
    l.attempts ≡ map (attempt_by l.change) (take l.attempt-index l.fn.attempts)
    ++ drop l.attempt-index l.fn.attempts
