use Rattle.std.proofs.Common.{◌∙◌, Some, ap, refl, subst, sym}
use Rattle.sc_staging.specs.Outputs.{output_dir, output_files}
use Rattle.sc_exec.specs.JobDesks.{JobDeskData, IsJobOf, job_desk_data}
use Rattle.sc_exec.specs.Logging.{StagesBoth}
use Rattle.sc_exec.proofs.JobDeskLemmas.{job_stages}
use Rattle.sc_exec.proofs.LogLemmas.{log_stage}
use Rattle.sc_exec.proofs.job_desks.JobDesk.stage_part.Goals as goal

pub invariant_of-self-2 : goal.invariant_of-self-2
invariant_of-self-2 g c =
    job_stages g.W.Naming.work g.J.Opening.opening c.self.inside.desk _ _ c.args.attempt
    c.args.text.now c.in-Save.staging _ c.in_ok-noted.noted c.is_within_types.ensures
    c.requires.text c.in_ok-noted.ensures.stages
    (subst
    (λ out. IsJobOf g.W.Naming.work g.J.Opening.opening
    (job_desk_data c.self.inside.desk (output_dir out) (output_files g.F.Files.state out)))
    c.in-Save.is c.self.invariant)

pub returns-clause-stages : goal.returns-clause-stages
returns-clause-stages g c =
    subst
    (λ (h : JobDeskData). StagesBoth h c.args.log.now c.args.attempt c.args.text.now
    c.in_ok-noted.noted.answer
    (job_desk_data c.stage_part.new.self (Some c.stage_part.new.staging.dir)
    c.stage_part.new.staging.files) c.log_last.new.log)
    (ap (λ out. job_desk_data c.self.inside.desk (output_dir out)
    (output_files g.F.Files.state out)) (sym c.in-Save.is) ∙ c.self.view_is)
    (log_stage c.self.inside.desk c.args.log.now _ c.args.attempt c.args.text.now
    c.in-Save.staging c.stage_part.new.staging c.in_ok-noted.noted c.stage_part.new.self
    c.log_last.new.log _ c.in_ok-noted.ensures.stages c.in_ok-noted.noted.answer refl
    c.log_last.ensures.logged c.entries.ensures refl c.reserve.ensures.items)
