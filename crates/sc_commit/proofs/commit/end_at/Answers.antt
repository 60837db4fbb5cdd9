use Rattle.std.proofs.Common.{sym, arith}
use Rattle.sc_ids.proofs.ChangeLemmas.{set_changed, change_at_past}
use Rattle.sc_commit.specs.Committing.{ended}
use Rattle.sc_commit.proofs.commit.end_at.Goals as goal

pub returns-then-attempt-len-clause-state : goal.returns-then-attempt-len-clause-state
returns-then-attempt-len-clause-state c =
    let v = c.args.committers.now in
    set_changed v.items c.args.attempt.partition c.index_mut.result.now c.end.new.self
    (ended c.args.attempt c.args.how) (omega (arith, v.ok.0))
    c.index_mut.ensures.value c.end.ensures.state

pub returns-else-attempt-len-clause-state : goal.returns-else-attempt-len-clause-state
returns-else-attempt-len-clause-state c =
    let v = c.args.committers.now in
    sym (change_at_past v.items c.args.attempt.partition (ended c.args.attempt c.args.how)
    (omega (arith, v.ok.0)))
