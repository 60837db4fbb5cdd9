use Rattle.std.proofs.Common.{◌∙◌, ℕ, Err, arith, refl, sym}
use Rattle.std.proofs.lemmas.Result.{err_from_is_err_and}
use Rattle.sc_exec.proofs.HinderLemmas.{drained_hinders}
use Rattle.sc_exec.proofs.ReceiptLemmas.{sent_awaits, taken_room}
use Rattle.sc_exec.proofs.SendLemmas.{pushes_nothing}
use Rattle.sc_exec.proofs.posting.push.Goals as goal

pub returns-in-Ok-clause-awaits : goal.returns-in-Ok-clause-awaits
returns-in-Ok-clause-awaits g c =
    let room = taken_room c.reserve.result _ (sym c.is_err.ensures.value ∙ c.if-is_err.false)
    c.reserve.ensures.ok in
    sent_awaits c.args.log.now _ c.args.report.task.hand_out c.attempt-attempt.result
    c.attempt-attempt.ensures c.requires.told c.requires.works (refl, c.reserve.ensures.items)
    (omega (arith, room))

pub returns-in_err-make_room-clause-hinders : goal.returns-in_err-make_room-clause-hinders
returns-in_err-make_room-clause-hinders g c =
    let p = err_from_is_err_and c.from_residual.result c.from_residual.ensures.1 in
    rw (p.1, p.2)
    (drained_hinders {T = ℕ} g.W.Naming.work
    (record { exec = c.args.log.now.exec; entries = c.reserve.new.self })
    (Err c.in_err-make_room.field-0.0) c.in_err-make_room.ensures.hinders)

pub returns-in_err-make_room-clause-pushes : goal.returns-in_err-make_room-clause-pushes
returns-in_err-make_room-clause-pushes g c =
    let p = err_from_is_err_and c.from_residual.result c.from_residual.ensures.1 in
    pushes_nothing _ _ c.from_residual.result p.0 _ _ p.1
    (c.in-Err.ensures.full ∙ c.loop.invariant.2)
