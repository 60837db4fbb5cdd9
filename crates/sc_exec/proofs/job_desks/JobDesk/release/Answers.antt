use Rattle.sc_exec.proofs.JobDeskLemmas.{job_releases}
use Rattle.sc_exec.proofs.job_desks.JobDesk.release.Goals as goal

pub invariant_of-self-2 : goal.invariant_of-self-2
invariant_of-self-2 g c =
    job_releases g.W.Naming.work g.J.Opening.opening _ _ _ _ _ _ _
    c.in_ok-receipt.ensures.released c.self.invariant
