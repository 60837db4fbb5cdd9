use Rattle.std.proofs.Common.{◌∙◌, subst}
use Rattle.sc_lineage.specs.ScriptData.{WorkData, IsSoundScript}
use Rattle.sc_jobs.proofs.StageLemmas.{target_known}
use Rattle.sc_jobs.proofs.jobs.Job.knows_target.Goals as goal

pub returns : goal.returns
returns g c =
    let Sound : WorkData → Type 0 = λ w. IsSoundScript w.script in
    target_known g.W.Naming.work c.args.self.now c.is_job.ensures
    (subst Sound (c.get.ensures ∙ c.is_named.ensures) c.is_sound.ensures.script) c.args.stage
    c.args.partition c.requires
