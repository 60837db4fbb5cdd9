use Rattle.sc_exec.proofs.JobDeskLemmas.{job_loses}
use Rattle.sc_exec.proofs.job_desks.JobDesk.tell_lost.Goals as goal

pub invariant_of-self-2 : goal.invariant_of-self-2
invariant_of-self-2 g c =
    job_loses g.W.Naming.work g.J.Opening.opening _ _ _ _ _ _ _
    c.in_ok-receipt.ensures.lost c.self.invariant
