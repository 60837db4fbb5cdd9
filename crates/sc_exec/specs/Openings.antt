-- How a job began, which stays while it runs.
use Rattle.std.specs.Prelude.{[], Option, None}
use Rattle.sc_base.specs.Outside.{FilesState, files_state}
use Rattle.sc_base.specs.Trees.{Path}
use Rattle.sc_ids.specs.LimitDefaults.{default_limits}
use Rattle.sc_tracker.specs.TrackerData.{tracker_data}
use Rattle.sc_dag.specs.DagData.{dag_data}
use Rattle.sc_core.specs.CoreData.{CoreData, core_data}
use Rattle.sc_core.specs.declared.answers.JobState.TheVariants.{Running}
use Rattle.sc_jobs.specs.JobData.{JobData, job_data}
use Rattle.sc_jobs.specs.declared.goals.Goal.TheVariants.{Action}
use Rattle.sc_stagecut.specs.Carrying.{CarriedData, carried_data}

-- how a job began
pub record OpeningData : Type 0 where
  -- its core before the first entry
  pub core : CoreData
  pub job : JobData
  -- what goes on to the next job
  pub carried : CarriedData
  -- where it saves to, if it saves
  pub dir : Option Path
  -- the files as they were when it began
  pub files : FilesState

abbrev pub opening_data :
    CoreData → JobData → CarriedData → Option Path → FilesState → OpeningData
opening_data core job carried dir files =
    record { core = core; job = job; carried = carried; dir = dir; files = files }

-- a job without a stage, which saves nothing
abbrev pub no_opening : OpeningData
no_opening =
    opening_data
    (core_data 0 0 0 Running None [] [] 0 []
    (dag_data [] [] (tracker_data [] [] 0) default_limits) [])
    (job_data (Action 0) []) (carried_data [] 0 []) None (files_state None 0 0)
