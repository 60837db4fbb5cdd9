use Rattle.sc_exec.proofs.TurnLemmas.{told_if}
use Rattle.sc_exec.proofs.job_desks.JobDesk.request.Goals as goal

pub returns-clause-told : goal.returns-clause-told
returns-clause-told g c =
    told_if g.W.Naming.work _ _ c.args.log.now _ _ c.take-taken.result c.is_job.ensures.job
    c.is_sound.ensures.core c.is_sound-2.ensures.core c.is_sound-2.ensures.execs
    c.requires.works c.take-taken.ensures.taken
