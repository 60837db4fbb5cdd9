use Rattle.sc_exec.proofs.JobDeskLemmas.{job_posts}
use Rattle.sc_exec.proofs.LogLemmas.{possible}
use Rattle.sc_exec.proofs.job_desks.JobDesk.post.Goals as goal

pub invariant_of-self-2 : goal.invariant_of-self-2
invariant_of-self-2 g c =
    job_posts g.W.Naming.work g.J.Opening.opening _ _ _ _ _ _ _
    c.in_ok-posted.ensures.posted c.self.invariant

pub delivered-requires-clause-possible : goal.delivered-requires-clause-possible
delivered-requires-clause-possible g c =
    possible g.W.Naming.work _ _ _ _ _ c.in_ok-posted.ensures.posted
