-- A context: the jobs of a run so far, and what goes on to the next one.
use Rattle.std.specs.Prelude.{ℕ, ◌+◌, ◌≡◌, ◌≤◌, List, [], ◌∷◌, ◌++◌, Option, Some, length}
use Rattle.std.specs.Option.{option_to_list}
use Rattle.sc_base.specs.Outside.{FilesState}
use Rattle.sc_base.specs.declared.refusals.OrMemory.{OrMemory}
use Rattle.sc_base.specs.declared.refusals.OrMemory.TheVariants.{Fault, OutOfMemory}
use Rattle.sc_compute.specs.Evaluations.{IsOfSave}
use Rattle.sc_compute.specs.declared.results.TaskResult.{TaskResult}
use Rattle.sc_lineage.specs.Actions.{action_outcome, faults, prints}
use Rattle.sc_lineage.specs.ScriptData.{ActionData, WorkData}
use Rattle.sc_compute.specs.declared.evaluation.Evaluated.{Evaluated}
use Rattle.sc_compute.specs.declared.evaluation.Evaluated.TheVariants as evaluated
use Rattle.sc_stagecut.specs.Carrying.{CarriedData, after_job}
use Rattle.sc_core.specs.CoreData.{CoreData}
use Rattle.sc_core.specs.declared.answers.JobState.TheVariants.{Done}
use Rattle.sc_core.specs.declared.journals.JobHistory.{JobHistory}
use Rattle.sc_jobs.specs.JobData.{goal_action}
use Rattle.sc_jobs.specs.declared.goals.Goal.{Goal}
use Rattle.sc_jobs.specs.declared.goals.Goal.TheVariants as goals
use Rattle.sc_desk.specs.Begins.{FitsLast, IsPassedFor}
use Rattle.sc_desk.specs.DeskData.{PassedData}
use Rattle.sc_context.specs.Aborts.{IsAborted, IsHalted}
use Rattle.sc_context.specs.Files.{HasCounted, HaveLeft, LeavesFiles, StopsFiles}
use Rattle.sc_context.specs.Histories.{HasCome, HasDone, IsHistory, last_end}
use Rattle.sc_context.specs.Jobs.{AreResultsFor}
use Rattle.sc_context.specs.Progress.{Progress, first_progress, progress}
use Rattle.sc_context.specs.declared.stops.JobFault.{JobFault}
use Rattle.sc_context.specs.declared.stops.JobFault.TheVariants as faults

-- a context
pub record ContextData : Type 0 where
  -- how far the jobs have come
  pub progress : Progress
  -- how they went
  pub histories : List JobHistory
  -- how those went that were given up, until then
  pub given_up : List JobHistory
  -- the files that saves write to
  pub files : FilesState

abbrev pub context_data : ℕ → CarriedData → List JobHistory → List JobHistory → FilesState
    → ContextData
context_data actions carried histories given_up files =
    record {
      progress = progress actions carried (last_end histories);
      histories = histories;
      given_up = given_up;
      files = files;
    }

-- a context in which no job has run
abbrev pub new_context : WorkData → FilesState → ContextData
new_context work files =
    record { progress = first_progress work; histories = []; given_up = []; files = files }

-- What goes on to the next job serves it. Of the stores nothing is said: they lie behind locks, and
-- what an executor finds there is checked as it is found.
pub record IsReady (work : WorkData) (passed : PassedData) (last : Option CoreData)
    : Type 0 where
  pub passed_on : IsPassedFor work passed
  pub fits : FitsLast work last

-- every context
pub record IsContext (work : WorkData) (passed : PassedData) (c : ContextData) : Type 0 where
  pub come : HasCome work (first_progress work) c.histories c.given_up c.progress
  pub within : c.progress.actions ≤ length work.script.actions
  pub ready : IsReady work passed c.progress.last
  -- there is a place for the bounds of each node
  pub places : length c.progress.carried.bounds ≡ length work.script.nodes

-- the job that came next is done: its history stands behind the others, and how it went before if
-- it was given up; what goes on serves the next job, these are its results, and the files are as it
-- left them
pub record IsEnded (work : WorkData) (c : ContextData) (goal : Goal) (passed : PassedData)
    (histories given_up : List JobHistory) (given : List TaskResult) (files : FilesState)
    : Type 0 where
  pub history : JobHistory
  pub all : histories ≡ c.histories ++ history ∷ []
  pub tried : Option JobHistory
  pub all_given : given_up ≡ c.given_up ++ option_to_list tried
  pub is : IsHistory work c.progress goal tried history
  pub done : history.end.job ≡ Done
  pub carried : passed.carried ≡ after_job c.progress.carried is.graph
  pub ready : IsReady work passed (Some history.end)
  pub results : AreResultsFor work goal given
  pub left : LeavesFiles work goal tried history c.files files

-- an action gives this, by the sequential meaning
abbrev pub Evaluates : WorkData → ActionData → Evaluated → Type 0
Evaluates work action (evaluated.Prints text) = action_outcome work action ≡ prints text
Evaluates work action evaluated.Saves = IsOfSave (action_outcome work action)
Evaluates work action (evaluated.Faults fault) = action_outcome work action ≡ faults fault
Evaluates work action (evaluated.Never p) = ⊥

-- the next action gave its value, once its jobs were done
pub record GivesNext (work : WorkData) (c : ContextData) (value : Evaluated) (after : ContextData)
    : Type 0 where
  pub evaluates : Evaluates work (goal_action work (goals.Action c.progress.actions)) value
  pub one_more : after.progress.actions ≡ c.progress.actions + 1
  pub more : List JobHistory
  pub all : after.histories ≡ c.histories ++ more
  pub given : List JobHistory
  pub all_given : after.given_up ≡ c.given_up ++ given
  -- what the jobs left of the files that were done since
  pub come : HasCome work c.progress more given after.progress
  pub left : HaveLeft work c.progress more given after.progress come c.files after.files

-- the histories so far stand, perhaps with more behind them, and so do those of jobs given up
pub record StandBehind (c : ContextData) (histories given_up : List JobHistory) : Type 0 where
  pub more : List JobHistory
  pub all : histories ≡ c.histories ++ more
  pub given : List JobHistory
  pub all_given : given_up ≡ c.given_up ++ given

-- what the histories show where a job for an action came to no end: that it was aborted, or that
-- it went no further; where its directory was there it never began
abbrev pub ShowsStop : WorkData → ℕ → OrMemory JobFault → List JobHistory → List JobHistory
    → Type 0
ShowsStop work k (Fault (faults.Aborted abort)) histories given_up =
    IsAborted work k histories given_up abort
ShowsStop work k (Fault (faults.Exists path)) histories given_up =
    HasDone work histories given_up k
ShowsStop work k (Fault (faults.Device path)) histories given_up =
    IsHalted work k histories given_up
ShowsStop work k OutOfMemory histories given_up = IsHalted work k histories given_up

-- The next action gave no value, since a job for it was aborted, its directory was there, a call on
-- its files failed, or memory ran out: what the histories show then, and how the files stand.
pub record Stops (work : WorkData) (c : ContextData) (why : OrMemory JobFault)
    (histories given_up : List JobHistory) (files : FilesState) : Type 0 where
  pub behind : StandBehind c histories given_up
  pub shows : ShowsStop work c.progress.actions why histories given_up
  pub over : StopsFiles work behind.given c.progress.actions c.files files why
  pub counted : HasCounted behind.more behind.given why c.files files
