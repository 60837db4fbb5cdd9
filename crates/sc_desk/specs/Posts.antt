-- What becomes of a report that is posted.
use Rattle.std.specs.Prelude.{◌≡◌, ◌≢◌, Bool, true, false, List, Option, Some, None, if◌then◌else◌, length}
use Rattle.sc_ids.specs.Changes.{change_at}
use Rattle.sc_ids.specs.declared.attempts.AttemptId.{AttemptId}
use Rattle.sc_ids.specs.declared.attempts.Mark.{Mark}
use Rattle.sc_lineage.specs.ScriptData.{WorkData}
use Rattle.sc_compute.specs.declared.results.TaskResult.{TaskResult}
use Rattle.sc_core.specs.CoreData.{CoreData, job_runs, running_of}
use Rattle.sc_core.specs.Posts.{comes_twice, fits}
use Rattle.sc_core.specs.declared.answers.Answer.{Answer}
use Rattle.sc_core.specs.declared.answers.Answer.TheVariants as says
use Rattle.sc_core.specs.declared.events.Event.TheVariants.{Post}
use Rattle.sc_core.specs.declared.running.Running.{Running}
use Rattle.sc_net.specs.Reports.{ReportData, outcome_of, result_in}
use Rattle.sc_jobs.specs.JobData.{JobData}
use Rattle.sc_net.specs.Tasks.{TaskData, task_data}
use Rattle.sc_desk.specs.DeskData.{DeskData, core_of}
use Rattle.sc_desk.specs.Dues.{IsEarly, IsInTime}
use Rattle.sc_desk.specs.Entries.{Enters}
use Rattle.sc_desk.specs.Shelves.{shelf_in, with_more}
use Rattle.sc_desk.specs.declared.posts.Posted.{Posted}
use Rattle.sc_desk.specs.declared.posts.Posted.TheVariants as posted
use Rattle.sc_desk.specs.declared.receipts.Receipt.{Receipt}

-- which attempt a report is of
abbrev pub attempt_of : ReportData → AttemptId
attempt_of report = report.task.hand_out.attempt

-- a report is one of this running attempt: its task is the one that was given, and it fits it
pub record IsOf (d : DeskData) (r : Running) (report : ReportData) : Type 0 where
  pub given : report.task ≡ task_data d.job r.hand_out
  pub fitting : fits (core_of d) r (outcome_of report.finding) ≡ true

-- a report is no stranger: where its attempt runs here, it is one of it
abbrev pub IsKnown : DeskData → ReportData → Type 0
IsKnown d report =
    (r : Running) → job_runs (core_of d) ≡ true
    → running_of (core_of d) (attempt_of report) ≡ Some r → IsOf d r report

-- an answer says that a partition has its result
abbrev pub is_finished : Answer → Bool
is_finished says.Finished = true
is_finished answer = false

-- the results with that of a report, where it is answered that its partition is finished
abbrev pub results_after :
    List (Option TaskResult) → ReportData → Answer → List (Option TaskResult)
results_after results report answer =
    if is_finished answer
    then change_at results (attempt_of report).partition (λ _. result_in report.finding)
    else results

-- a task is the one that was given to a running attempt, where there is one
abbrev pub IsGivenOf : Option Running → JobData → TaskData → Type 0
IsGivenOf None job t = Unit {0}
IsGivenOf (Some r) job t = t ≡ task_data job r.hand_out

abbrev pub IsGivenIf : Bool → Option Running → JobData → TaskData → Type 0
IsGivenIf true running job t = IsGivenOf running job t
IsGivenIf false running job t = Unit {0}

-- a task is the one that was given to its attempt, where that runs here
abbrev pub IsGiven : DeskData → TaskData → Type 0
IsGiven d t =
    IsGivenIf (job_runs (core_of d)) (running_of (core_of d) t.hand_out.attempt) d.job t

-- there is a copy of a report where the fault plan doubles it
abbrev pub AreCopies : CoreData → ReportData → Option ReportData → Type 0
AreCopies c report None = comes_twice c (attempt_of report) ≡ false
AreCopies c report (Some copy) = (comes_twice c (attempt_of report) ≡ true) × (copy ≡ report)

-- A report is received: it is no stranger and speaks of nothing that can't be yet, and its entry,
-- at this place, has what the core answers. A result is kept where it finishes its partition, and
-- the report stands on the shelf wherever the core is to be told of it later.
pub record Receives (work : WorkData) (d : DeskData) (by : Mark) (report : ReportData)
    (receipt : Receipt) (after : DeskData) : Type 0 where
  pub known : IsKnown d report
  pub in_time : IsInTime work (core_of d).told report.finding
  pub place : receipt.entry ≡ length d.journal.entries
  pub enters : Enters d by (Post (attempt_of report) (outcome_of report.finding))
      receipt.answer after
  pub no_loss : receipt.answer ≢ says.Told
  pub results : after.results ≡ results_after d.results report receipt.answer
  pub shelf : after.shelf
      ≡ shelf_in (core_of after) (with_more d.shelf report (core_of after).shelf)

-- A report is posted: it is received, or handed back with nothing changed, a stranger, or one that
-- speaks of a generation that no wipe has brought yet.
abbrev pub Posts : {W : _} → WorkData → DeskData → Mark → ReportData → Posted W → DeskData → Type 0
Posts work d by report (posted.Receipt receipt) after = Receives work d by report receipt after
Posts work d by report (posted.Stranger back) after =
    (IsKnown d report → ⊥) × (back ≡ report) × (after ≡ d)
Posts work d by report (posted.Early back due) after =
    IsKnown d report × IsEarly work (core_of d).told report.finding due × (back ≡ report)
    × (after ≡ d)
