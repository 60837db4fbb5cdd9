-- How one job of a run begins and ends.
use Rattle.std.specs.Prelude.{◌≡◌, ◌⊎◌, true, List}
use Rattle.sc_base.specs.declared.refusals.OrMemory.{OrMemory}
use Rattle.sc_base.specs.declared.refusals.OrMemory.TheVariants.{Fault, OutOfMemory}
use Rattle.sc_lineage.specs.ScriptData.{WorkData}
use Rattle.sc_compute.specs.Results.{AreResultsOf}
use Rattle.sc_compute.specs.declared.results.TaskResult.{TaskResult}
use Rattle.sc_core.specs.CoreData.{CoreData}
use Rattle.sc_core.specs.declared.answers.JobState.TheVariants as jobs
use Rattle.sc_jobs.specs.JobData.{goal_action, saves}
use Rattle.sc_jobs.specs.declared.goals.Goal.{Goal}
use Rattle.sc_context.specs.Histories.{IsUnaborted}
use Rattle.sc_context.specs.declared.stops.JobFault.{JobFault}
use Rattle.sc_context.specs.declared.stops.JobFault.TheVariants as faults

-- results are those of all partitions for a goal, of which none raises
abbrev pub AreResultsFor : WorkData → Goal → List TaskResult → Type 0
AreResultsFor work goal results = AreResultsOf work (goal_action work goal) results

-- the job of a core is done, and these are its results
pub record HasResults (work : WorkData) (goal : Goal) (end : CoreData) (results : List TaskResult)
    : Type 0 where
  pub done : end.job ≡ jobs.Done
  pub all : AreResultsFor work goal results

-- it wasn't aborted, unless it saves
abbrev pub IsUnabortedOrSave : WorkData → Goal → CoreData → Type 0
IsUnabortedOrSave work goal end = IsUnaborted end ⊎ (saves work goal ≡ true)

-- It has none, since it was aborted, or memory ran out, or a call on its files failed; in a save
-- these two may come behind an abort.
abbrev pub HasNoResults : WorkData → Goal → CoreData → OrMemory JobFault → Type 0
HasNoResults work goal end (Fault (faults.Aborted abort)) = end.job ≡ jobs.Aborted abort
HasNoResults work goal end (Fault (faults.Exists path)) = ⊥
HasNoResults work goal end (Fault (faults.Device path)) = IsUnabortedOrSave work goal end
HasNoResults work goal end OutOfMemory = IsUnabortedOrSave work goal end
