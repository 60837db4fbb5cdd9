use Rattle.sc_exec.proofs.JobDeskLemmas.{job_takes}
use Rattle.sc_exec.proofs.job_desks.JobDesk.take.Goals as goal

pub invariant_of-self-2 : goal.invariant_of-self-2
invariant_of-self-2 g c =
    job_takes g.W.Naming.work g.J.Opening.opening _ _ _ _ _ _ _ _
    c.in_ok-taken.ensures.taken c.self.invariant
