use Rattle.sc_exec.proofs.TurnLemmas.{loses_on}
use Rattle.sc_exec.proofs.job_desks.JobDesk.lose.Goals as goal

pub returns-in-Ok-clause-works : goal.returns-in-Ok-clause-works
returns-in-Ok-clause-works g c =
    loses_on _ _ c.args.log.now _ c.args.exec c.tell_lost.result c.requires.works
    c.tell_lost.ensures.lost c.tell_lost.ensures.unlogged
