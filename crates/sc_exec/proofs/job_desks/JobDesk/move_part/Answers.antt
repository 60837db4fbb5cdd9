use Rattle.std.proofs.Common.{◌∙◌, Some, ap, refl, subst, sym}
use Rattle.sc_staging.specs.Outputs.{output_dir, output_files}
use Rattle.sc_exec.specs.JobDesks.{JobDeskData, IsJobOf, job_desk_data}
use Rattle.sc_exec.specs.Logging.{MovesBoth}
use Rattle.sc_exec.proofs.JobDeskLemmas.{job_moves, may_move}
use Rattle.sc_exec.proofs.LogLemmas.{log_move}
use Rattle.sc_exec.proofs.job_desks.JobDesk.move_part.Goals as goal

pub move_part-requires : goal.move_part-requires
move_part-requires g c =
    record {
      staged = may_move g.W.Naming.work g.J.Opening.opening c.self.inside.desk c.args.attempt
          c.in-Save.staging c.is_within_types.ensures c.is_sound.ensures c.is_replay.ensures
          (subst
          (λ out. IsJobOf g.W.Naming.work g.J.Opening.opening
          (job_desk_data c.self.inside.desk (output_dir out) (output_files g.F.Files.state out)))
          c.in-Save.is c.self.invariant);
    }

pub invariant_of-self-2 : goal.invariant_of-self-2
invariant_of-self-2 g c =
    job_moves g.W.Naming.work g.J.Opening.opening c.self.inside.desk _ _ c.args.attempt
    c.in-Save.staging _ c.in_ok-noted.noted c.is_within_types.ensures c.is_sound.ensures
    c.is_replay.ensures c.in_ok-noted.ensures.moves
    (subst
    (λ out. IsJobOf g.W.Naming.work g.J.Opening.opening
    (job_desk_data c.self.inside.desk (output_dir out) (output_files g.F.Files.state out)))
    c.in-Save.is c.self.invariant)

pub returns-clause-moves : goal.returns-clause-moves
returns-clause-moves g c =
    subst
    (λ (h : JobDeskData). MovesBoth h c.args.log.now c.args.attempt c.in_ok-noted.noted.answer
    (job_desk_data c.move_part.new.self (Some c.move_part.new.staging.dir)
    c.move_part.new.staging.files) c.log_last.new.log)
    (ap (λ out. job_desk_data c.self.inside.desk (output_dir out)
    (output_files g.F.Files.state out)) (sym c.in-Save.is) ∙ c.self.view_is)
    (log_move c.self.inside.desk c.args.log.now _ c.args.attempt c.in-Save.staging
    c.move_part.new.staging c.in_ok-noted.noted c.move_part.new.self c.log_last.new.log _
    c.in_ok-noted.ensures.moves c.in_ok-noted.noted.answer refl c.log_last.ensures.logged
    c.entries.ensures refl c.reserve.ensures.items)
