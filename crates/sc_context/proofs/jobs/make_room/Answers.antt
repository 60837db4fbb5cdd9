use Rattle.sc_context.proofs.EndingLemmas.{same_kept}
use Rattle.sc_context.proofs.jobs.make_room.Goals as goal

pub returns-in_err-reserve-clause-kept : goal.returns-in_err-reserve-clause-kept
returns-in_err-reserve-clause-kept g c =
    same_kept g.W.Naming.work c.args.records.now c.reserve.new.self c.reserve.ensures.same
    c.requires.kept

pub returns-clause-kept : goal.returns-clause-kept
returns-clause-kept g c =
    same_kept g.W.Naming.work c.args.records.now c.reserve.new.self c.reserve.ensures.same
    c.requires.kept
