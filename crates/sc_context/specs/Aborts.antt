-- What an abort shows.
use Rattle.std.specs.Prelude.{ℕ, ◌<◌, ◌≤◌, ◌==◌, ◌≡◌, ◌≢◌, ◌⊎◌, ◌&&◌, Bool, true, false, Contains, List, None, filter, length}
use Rattle.sc_ids.specs.Failures.{HasRisen}
use Rattle.sc_ids.specs.declared.failures.Fault.{Fault}
use Rattle.sc_lineage.specs.Actions.{action_outcome, never}
use Rattle.sc_lineage.specs.ScriptData.{WorkData}
use Rattle.sc_plan.specs.Orders.{loss_of, planned_losses}
use Rattle.sc_plan.specs.declared.lines.PlanLine.{PlanLine}
use Rattle.sc_plan.specs.declared.lines.PlanLine.TheVariants as lines
use Rattle.sc_core.specs.Journals.{Replays}
use Rattle.sc_core.specs.declared.answers.Abort.{Abort}
use Rattle.sc_core.specs.declared.answers.Abort.TheVariants.{Budget, NoExecutor, StageLimit, TaskLimit}
use Rattle.sc_core.specs.declared.answers.JobState.TheVariants as jobs
use Rattle.sc_core.specs.declared.journals.JobHistory.{JobHistory}
use Rattle.sc_causes.specs.Losses.{IsLostBy}
use Rattle.sc_history.specs.Budgets.{ShowsBudget}
use Rattle.sc_history.specs.Evidence.{ShowsTaskLimit}
use Rattle.sc_history.specs.Losses.{ShowsLoss}
use Rattle.sc_history.specs.StageEvidence.{ShowsStageLimit}
use Rattle.sc_history.specs.Tellings.{tellings}
use Rattle.sc_jobs.specs.JobData.{goal_action, saves}
use Rattle.sc_jobs.specs.declared.goals.Goal.{Goal}
use Rattle.sc_jobs.specs.declared.goals.Goal.TheVariants as goals
use Rattle.sc_desk.specs.Files.{faults_of}
use Rattle.sc_context.specs.Histories.{HasGone, IsCutShort}
use Rattle.sc_context.specs.Progress.{Progress}

-- What a job's history shows of an abort: as many failed attempts of the partition as are allowed;
-- as many failed attempts of the stage, while it was never complete; the loss of each executor, as
-- the plan says, which was so where the job began or is told by an entry; or as many tasks as a job
-- may hand out.
abbrev pub ShowsAbort : (work : WorkData) (h : JobHistory)
    → Replays h.opening h.entries.items h.end → Abort → Type 0
ShowsAbort work h is (TaskLimit stage number partition) =
    ShowsTaskLimit work.limits (tellings h.opening h.entries.items h.end is) stage number partition
ShowsAbort work h is (StageLimit stage) =
    ShowsStageLimit work.limits h.opening h.entries.items h.end stage
ShowsAbort work h is NoExecutor =
    (exec : ℕ) → exec < work.limits.executors
    → IsLostBy work.plan h.end exec × ShowsLoss h.opening h.entries.items exec
ShowsAbort work h is Budget = ShowsBudget work.limits h.entries.items

-- an entry of a job tells of a call on the files that failed, over which one of their counts rose
abbrev pub ShowsFault : JobHistory → Type 0
ShowsFault h = (fault : Fault) × Contains (faults_of h.entries.items) fault × HasRisen fault

-- whether a line lets an attempt of a partition fail
abbrev pub fails_task : ℕ → ℕ → PlanLine → Bool
fails_task stage partition (lines.Fail p) = (p.stage == stage) && (p.partition == partition)
fails_task stage partition line = false

-- how many attempts of a partition a plan lets fail, in each attempt of the stage
abbrev pub planned_failures : List PlanLine → ℕ → ℕ → ℕ
planned_failures plan stage partition = length (filter (fails_task stage partition) plan)

-- the action never has an outcome, or it saves, and the job shows a call on its files that failed
abbrev pub RaisesOrFaults : WorkData → ℕ → JobHistory → Type 0
RaisesOrFaults work k h =
    (action_outcome work (goal_action work (goals.Action k)) ≡ never)
    ⊎ ((saves work (goals.Action k) ≡ true) × ShowsFault h)

-- What an abort of a job for an action needs of the plan. Of the partition that failed too often it
-- lets as many attempts fail as may, where it isn't the action's or the files' fault. It lets
-- outputs be forgotten as often as attempts of a stage may fail, or loses every executor. Of a
-- budget it says nothing.
abbrev pub IsWithinPlan : WorkData → ℕ → JobHistory → Abort → Type 0
IsWithinPlan work k h (TaskLimit stage number partition) =
    (work.limits.task_failures ≤ planned_failures work.plan stage partition)
    ⊎ RaisesOrFaults work k h
IsWithinPlan work k h (StageLimit stage) =
    work.limits.stage_attempts ≤ planned_losses work.plan
IsWithinPlan work k h NoExecutor =
    (exec : ℕ) → exec < work.limits.executors → loss_of work.plan exec ≢ None
IsWithinPlan work k h Budget = Unit {0}

-- the last job, which ran for this action or for bounds that it needs, was aborted
pub record IsAborted (work : WorkData) (k : ℕ) (histories given_up : List JobHistory)
    (abort : Abort) : Type 0 where
  pub known : k < length work.script.actions
  pub progress : Progress
  pub goal : Goal
  pub history : JobHistory
  pub gone : HasGone work histories given_up progress goal history
  pub at : progress.actions ≡ k
  pub aborted : history.end.job ≡ jobs.Aborted abort
  pub shows : ShowsAbort work history gone.is.replays abort
  pub within : IsWithinPlan work k history abort

-- A job for this action, or for bounds that it needs, went no further without being aborted; or the
-- action saves, and the job was aborted, behind which a call on files or memory may have failed.
abbrev pub IsHalted : WorkData → ℕ → List JobHistory → List JobHistory → Type 0
IsHalted work k histories given_up =
    IsCutShort work k histories given_up
    ⊎ ((saves work (goals.Action k) ≡ true)
    × ((abort : Abort) × IsAborted work k histories given_up abort))
