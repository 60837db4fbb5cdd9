use Rattle.std.proofs.Common.{◌∙◌, ◌-◌, length, get_or, ap, arith}
use Rattle.sc_jobs.proofs.StageLemmas.{last_read, last_there}
use Rattle.sc_jobs.proofs.jobs.Job.result_stage.Goals as goal

pub overflow_sub-result : goal.overflow_sub-result
overflow_sub-result g c =
    let there = last_there g.W.Naming.work c.args.self.now c.is_job.ensures in
    let many = ap length (c.stages-stages.ensures ∙ c.graph.ensures) in
    omega (arith, there, many)

pub bounds-stages-stages : goal.bounds-stages-stages
bounds-stages-stages g c =
    let there = last_there g.W.Naming.work c.args.self.now c.is_job.ensures in
    let many = ap length (c.stages-stages.ensures ∙ c.graph.ensures) in
    omega (arith, there, many)

pub returns : goal.returns
returns g c =
    let stages = c.stages-stages.result.now in
    let same = c.stages-stages.ensures ∙ c.graph.ensures in
    last_read g.W.Naming.work c.args.self.now c.is_job.ensures c.index-stages-stages.result
    (length stages) (ap length same)
    (c.index-stages-stages.is
    ∙ ap (λ ss. get_or ss (length stages - 1) c.index-stages-stages.result) same)
