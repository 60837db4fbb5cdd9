use Rattle.sc_ids.proofs.ChangeLemmas.{map_loop}
use Rattle.sc_dag.specs.Changes.{attempt_by}
use Rattle.sc_dag.proofs.attempts.change_each.Goals as goal

pub loop-attempt-preserved : goal.loop-attempt-preserved
loop-attempt-preserved c =
    map_loop (attempt_by c.args.change) c.args.attempts.now c.loop-attempt.attempts
    c.loop-attempt.attempt-index c.change.new.self c.attempt-item.result
    c.loop-attempt-test.true c.loop-attempt.invariant c.change.ensures
