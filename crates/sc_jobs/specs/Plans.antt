-- What every job keeps.
use Rattle.std.specs.Prelude.{ℕ, ◌+◌, ◌<◌, ◌≡◌, ◌++◌, [], ◌∷◌, true, is_some, List, Option, None, IfSome, All, Contains, length}
use Rattle.sc_base.specs.Lists.{at_or}
use Rattle.sc_value.specs.Keys.{KeyData}
use Rattle.sc_ids.specs.Graphs.{StageData}
use Rattle.sc_ids.specs.declared.blocks.ShuffleId.{ShuffleId}
use Rattle.sc_ids.specs.declared.blocks.Target.{Target}
use Rattle.sc_ids.specs.declared.blocks.Target.TheVariants as targets
use Rattle.sc_lineage.specs.ScriptData.{WorkData}
use Rattle.sc_stagecut.specs.Carrying.{is_sort}
use Rattle.sc_stagecut.specs.Numbering.{side_of}
use Rattle.sc_dag.specs.Openings.{IsJob, number_behind}
use Rattle.sc_dag.specs.Submission.{is_map}
use Rattle.sc_compute.specs.Inputs.{TakesIn}
use Rattle.sc_compute.specs.Stages.{GoesThrough, bounds_at, local_count, mapped_in, node_at}
use Rattle.sc_compute.specs.Tasks.{IsSideOf}
use Rattle.sc_jobs.specs.JobData.{IsGoal, JobData, goal_node}
use Rattle.sc_jobs.specs.declared.goals.Goal.{Goal}

-- a shuffle is one of the work's: a side of a node whose rows go through
pub record IsShuffleOf (work : WorkData) (s : ShuffleId) : Type 0 where
  pub known : s.node < length work.script.nodes
  pub side : IsSideOf (node_at work s.node) s.side
  pub through : GoesThrough work (node_at work s.node) s.side

-- how many map tasks a shuffle has: one for each partition of the side's parent
abbrev pub maps_of : WorkData → ShuffleId → ℕ
maps_of work s = local_count work (mapped_in (node_at work s.node) s.side)

-- so many tasks make what a stage of a job of this goal makes
abbrev pub AreTasksFor : WorkData → Goal → Target → ℕ → Type 0
AreTasksFor work goal (targets.Map s) tasks = IsShuffleOf work s × (tasks ≡ maps_of work s)
AreTasksFor work goal (targets.Result node) tasks =
    (node ≡ goal_node work goal) × (tasks ≡ local_count work (goal_node work goal))

-- a stage is one of a job of this goal
abbrev pub IsStageFor : WorkData → Goal → StageData → Type 0
IsStageFor work goal stage = AreTasksFor work goal stage.target stage.tasks

-- the node whose partitions the tasks of a stage take
abbrev pub node_taken_by : WorkData → Target → ℕ
node_taken_by work (targets.Map s) = mapped_in (node_at work s.node) s.side
node_taken_by work (targets.Result node) = node

-- a stage has the map stage of a side of a node among its parents
pub record ReadsSide (graph : List StageData) (stage : StageData) (node side : ℕ) : Type 0 where
  pub parent : StageData
  pub there : Contains graph parent
  pub read : Contains stage.parents parent.id
  pub makes : parent.target ≡ targets.Map (side_of node side)

-- a stage has the map stage of each shuffle that its tasks take in among its parents
abbrev pub ReadsInputs : WorkData → List StageData → StageData → Type 0
ReadsInputs work graph stage = (k side : ℕ) → TakesIn work (node_taken_by work stage.target) k
    → GoesThrough work (node_at work k) side → ReadsSide graph stage k side

-- what every job keeps
pub record IsJobFor (work : WorkData) (it : JobData) : Type 0 where
  -- it is for something that is there
  pub goal : IsGoal work it.goal
  -- its stages can be run
  pub job : IsJob it.graph
  -- and make what it is for
  pub stages : All (IsStageFor work it.goal) it.graph
  -- which read all that their tasks need
  pub inputs : All (ReadsInputs work it.graph) it.graph

-- a graph has the map stage of a side of a node
pub record MapsInto (graph : List StageData) (node : ℕ) : Type 0 where
  pub stage : StageData
  pub there : Contains graph stage
  pub side : ℕ
  pub makes : stage.target ≡ targets.Map (side_of node side)

-- the bounds that a job knows: those of each sort that has a map stage in it, and all are right
pub record KnowsBounds (work : WorkData) (graph : List StageData)
    (bounds : List (Option (List KeyData))) : Type 0 where
  pub right : (k : ℕ) → IfSome (at_or bounds k None) (λ found. found ≡ bounds_at work k)
  pub known : (k : ℕ) → is_sort (node_at work k) ≡ true → MapsInto graph k
      → is_some (at_or bounds k None) ≡ true

-- the stage that gives a job's results: the last one, and the only one that makes no map side
pub record GivesResults (work : WorkData) (job : JobData) (stage : StageData) : Type 0 where
  pub maps : List StageData
  pub last : job.graph ≡ maps ++ stage ∷ []
  pub are_maps : All (λ other. is_map other.target ≡ true) maps
  pub makes : stage.target ≡ targets.Result (goal_node work job.goal)
  pub tasks : stage.tasks ≡ local_count work (goal_node work job.goal)
  pub number : number_behind job.graph ≡ stage.id + 1
