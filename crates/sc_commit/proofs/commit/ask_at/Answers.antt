use Rattle.std.proofs.Common.{ap, sym, arith}
use Rattle.std.proofs.lemmas.Option.{slice_get_past}
use Rattle.sc_ids.proofs.ChangeLemmas.{set_changed, change_at_past}
use Rattle.sc_commit.specs.Committing.{asked, permitted_at}
use Rattle.sc_commit.proofs.commit.ask_at.Goals as goal

pub returns-then-attempt-len-clause-state : goal.returns-then-attempt-len-clause-state
returns-then-attempt-len-clause-state c =
    let v = c.args.committers.now in
    set_changed v.items c.args.attempt.partition c.index_mut.result.now c.ask.new.self
    (asked c.args.attempt) (omega (arith, v.ok.0)) c.index_mut.ensures.value c.ask.ensures.state

pub returns-else-attempt-len-clause-answer : goal.returns-else-attempt-len-clause-answer
returns-else-attempt-len-clause-answer c =
    let v = c.args.committers.now in
    ap (permitted_at c.args.attempt)
    (sym (slice_get_past v.items c.args.attempt.partition (omega (arith, v.ok.0))))

pub returns-else-attempt-len-clause-state : goal.returns-else-attempt-len-clause-state
returns-else-attempt-len-clause-state c =
    let v = c.args.committers.now in
    sym (change_at_past v.items c.args.attempt.partition (asked c.args.attempt)
    (omega (arith, v.ok.0)))
