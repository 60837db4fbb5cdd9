use Rattle.sc_exec.proofs.JobDeskLemmas.{job_leaves}
use Rattle.sc_exec.proofs.job_desks.JobDesk.leave.Goals as goal

pub invariant_of-self-2 : goal.invariant_of-self-2
invariant_of-self-2 g c =
    job_leaves g.W.Naming.work g.J.Opening.opening _ _ _ _ c.args.log.now.exec c.leave.result
    c.leave.ensures c.self.invariant
