use Rattle.std.proofs.Common.{◌≤◌, ◌∙◌, ℕ, All, List, ap, length, subst, sym, vec_capacity}
use Rattle.std.specs.Option.{option_map}
use Rattle.sc_desk.specs.DeskData.{core_of}
use Rattle.sc_staging.specs.Outputs.{output_dir, output_files}
use Rattle.sc_exec.specs.Verdicts.{IsVerdict}
use Rattle.sc_exec.specs.Workers.{AreInPlace, HasCause}
use Rattle.sc_exec.specs.declared.workers.Worker.{Worker}
use Rattle.sc_context.proofs.RunningLemmas.{as_many, came_from, given_by, given_up_so, has_run, has_run_again, logged_by, logged_so}
use Rattle.sc_context.proofs.StoppedLemmas.{have_stopped}
use Rattle.sc_context.proofs.running.run_begun.Goals as goal

pub work_job-desk-requires-clause-begun : goal.work_job-desk-requires-clause-begun
work_job-desk-requires-clause-begun g c κs lives = c.requires.begun.2.entries

pub work_job-desk-requires-clause-stand : goal.work_job-desk-requires-clause-stand
work_job-desk-requires-clause-stand g c κs lives = c.requires.stand

pub work_job-desk-requires-clause-fresh : goal.work_job-desk-requires-clause-fresh
work_job-desk-requires-clause-fresh g c κs lives =
    c.requires.crew.fresh

pub work_job-desk-requires-clause-places : goal.work_job-desk-requires-clause-places
work_job-desk-requires-clause-places g c κs lives =
    c.requires.crew.places

pub judge-how-requires-clause-worked : goal.judge-how-requires-clause-worked
judge-how-requires-clause-worked g c =
    subst (λ (ws : List Worker). All (HasCause g.W.Naming.work) ws)
    (sym c.as_slice.ensures.value)
    c.work_job-desk.ensures.worked

pub judge-how-requires-clause-places : goal.judge-how-requires-clause-places
judge-how-requires-clause-places g c =
    subst (λ (ws : List Worker). AreInPlace g.W.Naming.work.limits.executors ws)
    (sym c.as_slice.ensures.value) c.work_job-desk.ensures.places

pub into_logs-logs-requires-clause-no_logs : goal.into_logs-logs-requires-clause-no_logs
into_logs-logs-requires-clause-no_logs g c = c.requires.crew.no_logs

pub into_logs-logs-requires-clause-no_lefts : goal.into_logs-logs-requires-clause-no_lefts
into_logs-logs-requires-clause-no_lefts g c = c.requires.crew.no_lefts

pub into_logs-logs-requires-clause-log_room : goal.into_logs-logs-requires-clause-log_room
into_logs-logs-requires-clause-log_room g c =
    subst (λ (n : ℕ). n ≤ vec_capacity c.args.crew.logs)
    (sym (as_many g.W.Naming.work.limits.executors c.args.crew.workers.items
    c.work_job-desk.result.2.items c.requires.crew.places c.work_job-desk.ensures.places))
    c.requires.crew.log_room

pub into_logs-logs-requires-clause-left_room : goal.into_logs-logs-requires-clause-left_room
into_logs-logs-requires-clause-left_room g c =
    subst (λ (n : ℕ). n ≤ vec_capacity c.args.crew.lefts)
    (sym (as_many g.W.Naming.work.limits.executors c.args.crew.workers.items
    c.work_job-desk.result.2.items c.requires.crew.places c.work_job-desk.ensures.places))
    c.requires.crew.left_room

pub finish-requires : goal.finish-requires
finish-requires g c = record { stand = c.work_job-desk.ensures.job.stand }

pub run_again-requires-clause-stand : goal.run_again-requires-clause-stand
run_again-requires-clause-stand g c = c.work_job-desk.ensures.job.stand

pub run_again-requires-clause-from : goal.run_again-requires-clause-from
run_again-requires-clause-from g c =
    came_from g.W.Naming.work c.requires.begun.0 (option_map (λ l. l.now) c.args.last)
    c.requires.begun.1 c.args.begun.desk c.work_job-desk.result.0 (output_dir c.args.output)
    (output_dir c.work_job-desk.result.1) (output_files g.F.Files.state c.args.output)
    (output_files g.F.Files.state c.work_job-desk.result.1) c.work_job-desk.ensures.job
    c.args.begun.ordered c.requires.begun c.requires.ordered

pub run_again-requires-clause-many : goal.run_again-requires-clause-many
run_again-requires-clause-many g c = ap length c.requires.ordered ∙ c.is_sound.ensures.many

pub run_again-requires-clause-fits : goal.run_again-requires-clause-fits
run_again-requires-clause-fits g c = c.requires.fits

pub run_again-requires-clause-live : goal.run_again-requires-clause-live
run_again-requires-clause-live g c = c.requires.live

pub run_again-requires-clause-stopped : goal.run_again-requires-clause-stopped
run_again-requires-clause-stopped g c =
    let workers = c.work_job-desk.result.2.items in
    have_stopped g.W.Naming.work workers c.into_logs-logs.result.0.items
    c.into_logs-logs.result.1.items c.into_logs-logs.ensures.logs
    c.into_logs-logs.ensures.lefts c.work_job-desk.ensures.places
    c.work_job-desk.ensures.worked

pub run_again-requires-clause-cause : goal.run_again-requires-clause-cause
run_again-requires-clause-cause g c =
    let desk = c.work_job-desk.result.0 in
    let workers = c.work_job-desk.result.2.items in
    given_up_so desk.journal.entries workers c.into_logs-logs.result.0.items
    c.into_logs-logs.result.1.items c.into_logs-logs.ensures.logs
    c.into_logs-logs.ensures.lefts
    (given_by (core_of desk) desk.journal.entries workers c.judge-how.result c.in-GivenUp.is
    (subst (λ (ws : List Worker). IsVerdict (core_of desk) desk.journal.entries ws
    c.judge-how.result) c.as_slice.ensures.value c.judge-how.ensures))

pub returns-in-Ended : goal.returns-in-Ended
returns-in-Ended g c =
    let desk = c.work_job-desk.result.0 in
    let workers = c.work_job-desk.result.2.items in
    record {
      runs = λ passed goal begins. (
        has_run g.W.Naming.work passed (option_map (λ l. l.now) c.args.last) goal
            c.args.begun.desk desk (output_dir c.args.output) (output_dir c.work_job-desk.result.1)
            (output_files g.F.Files.state c.args.output)
            (output_files g.F.Files.state c.work_job-desk.result.1) c.work_job-desk.ensures.job
            c.finish.result.history c.finish.result.passed c.finish.result.results
            (g.F.Files.state c.finish.result.files) begins c.finish.ensures.went
            c.finish.ensures.counted,
        logged_so c.finish.result.history desk.journal.entries workers
            c.into_logs-logs.result.0.items c.finish.ensures.entries
            c.into_logs-logs.ensures.logs
            (logged_by (core_of desk) desk.journal.entries workers c.judge-how.result c.in-Ended.is
            (subst (λ (ws : List Worker). IsVerdict (core_of desk) desk.journal.entries ws
            c.judge-how.result) c.as_slice.ensures.value c.judge-how.ensures)),
        tt,
      );
    }

pub returns-in-GivenUp : goal.returns-in-GivenUp
returns-in-GivenUp g c =
    record {
      runs = λ passed goal begins.
          has_run_again g.W.Naming.work passed (option_map (λ l. l.now) c.args.last) goal
          c.args.begun.desk c.work_job-desk.result.0 (output_dir c.args.output)
          (output_dir c.work_job-desk.result.1) (output_files g.F.Files.state c.args.output)
          (output_files g.F.Files.state c.work_job-desk.result.1) c.work_job-desk.ensures.job
          g.F.Files.state c.args.begun.ordered c.run_again.result begins c.requires.ordered
          c.run_again.ensures.again;
    }
