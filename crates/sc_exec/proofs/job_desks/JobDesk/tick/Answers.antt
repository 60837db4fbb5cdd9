use Rattle.sc_exec.proofs.JobDeskLemmas.{job_ticks}
use Rattle.sc_exec.proofs.job_desks.JobDesk.tick.Goals as goal

pub invariant_of-self-2 : goal.invariant_of-self-2
invariant_of-self-2 g c =
    job_ticks g.W.Naming.work g.J.Opening.opening _ _ _ _ _ _ _
    c.in_ok-noted.ensures.noted c.self.invariant
