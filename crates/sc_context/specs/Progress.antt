-- How far the jobs of a run have come, and which job comes next.
use Rattle.std.specs.Prelude.{ℕ, ◌+◌, ◌≡◌, List, [], Option, Some, None, length, replicate}
use Rattle.sc_ids.specs.Graphs.{StageData}
use Rattle.sc_lineage.specs.ScriptData.{WorkData}
use Rattle.sc_stagecut.specs.Carrying.{CarriedData, IsFirstLacking, after_job, carried_data, with_bounds}
use Rattle.sc_core.specs.CoreData.{CoreData}
use Rattle.sc_compute.specs.Stages.{bounds_at}
use Rattle.sc_jobs.specs.JobData.{goal_node}
use Rattle.sc_jobs.specs.declared.goals.Goal.{Goal}
use Rattle.sc_jobs.specs.declared.goals.Goal.TheVariants as goals

-- how far the jobs of a run have come
pub record Progress : Type 0 where
  -- how many actions have their value
  pub actions : ℕ
  -- the stages and bounds that were found
  pub carried : CarriedData
  -- the core of the last job, where there was one
  pub last : Option CoreData

abbrev pub progress : ℕ → CarriedData → Option CoreData → Progress
progress actions carried last =
    record { actions = actions; carried = carried; last = last }

-- before the first job
abbrev pub first_progress : WorkData → Progress
first_progress work =
    progress 0 (carried_data [] 0 (replicate (length work.script.nodes) None)) None

-- the node of the action that comes next
abbrev pub next_node : WorkData → Progress → ℕ
next_node work p = goal_node work (goals.Action p.actions)

-- The job that comes next is that of the first sort which the next action reads and whose bounds
-- weren't found, and where there is none the action's own.
abbrev pub IsNext : WorkData → Progress → Goal → Type 0
IsNext work p (goals.Action number) =
    (number ≡ p.actions) × IsFirstLacking work.script.nodes p.carried (next_node work p) None
IsNext work p (goals.Bounds sort) =
    IsFirstLacking work.script.nodes p.carried (next_node work p) (Some sort)

-- what is carried behind a job that is done: its stages too, and the bounds that it was for
abbrev pub carried_behind : WorkData → Goal → List StageData → CarriedData → CarriedData
carried_behind work (goals.Action number) graph carried = after_job carried graph
carried_behind work (goals.Bounds sort) graph carried =
    with_bounds (after_job carried graph) sort (bounds_at work sort)

-- how many actions have their value behind such a job
abbrev pub actions_behind : Goal → ℕ → ℕ
actions_behind (goals.Action number) actions = actions + 1
actions_behind (goals.Bounds sort) actions = actions

-- how far the jobs have come once one more is done, which left this core
abbrev pub behind_job : WorkData → Progress → Goal → List StageData → CoreData → Progress
behind_job work p goal graph end =
    progress (actions_behind goal p.actions) (carried_behind work goal graph p.carried) (Some end)
