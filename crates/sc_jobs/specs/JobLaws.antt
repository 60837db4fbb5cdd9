-- Laws of jobs.
use Rattle.std.specs.Prelude.{ℕ, ◌≡◌, ◌↔◌, Some, Contains}
use Rattle.sc_ids.specs.Graphs.{StageData}
use Rattle.sc_lineage.specs.ScriptData.{WorkData, IsSoundScript}
use Rattle.sc_stagecut.specs.Carrying.{CarriedData, HasBounds, IsFirstLacking}
use Rattle.sc_compute.specs.Tasks.{IsTargetOf}
use Rattle.sc_jobs.specs.JobData.{HasTask, IsGoal, JobData, goal_node, stage_in, target_of}
use Rattle.sc_jobs.specs.Plans.{GivesResults, IsJobFor}
use Rattle.sc_jobs.specs.declared.goals.Goal.TheVariants as goals

-- each job has a stage that gives its results
abbrev pub JobsGiveResults : Type 0
JobsGiveResults =
    (work : WorkData) (job : JobData) → IsJobFor work job
    → (stage : StageData) × GivesResults work job stage

-- The first sort that a node reaches and whose bounds weren't found has a job of its own, which
-- needs no bounds that weren't found.
abbrev pub FirstBoundsCanBeFound : Type 0
FirstBoundsCanBeFound =
    (work : WorkData) (carried : CarriedData) (node sort : ℕ)
    → IsSoundScript work.script → IsFirstLacking work.script.nodes carried node (Some sort)
    → IsGoal work (goals.Bounds sort)
    × HasBounds work.script.nodes carried (goal_node work (goals.Bounds sort))

-- a stage of a job is the one that is found by its number
abbrev pub StagesAreFound : Type 0
StagesAreFound =
    (work : WorkData) (job : JobData) (stage : StageData) → IsJobFor work job
    → Contains job.graph stage ↔ (stage_in job.graph stage.id ≡ Some stage)

-- what the tasks of a job are to compute is there
abbrev pub TargetsAreThere : Type 0
TargetsAreThere =
    (work : WorkData) (job : JobData) (stage p : ℕ)
    → IsSoundScript work.script → IsJobFor work job → HasTask job.graph stage p
    → IsTargetOf work (target_of work job stage p)
