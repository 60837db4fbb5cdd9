-- A job as plain data: what it is for, and its stages.
use Rattle.std.specs.Prelude.{ℕ, ◌==◌, ◌≡◌, ◌<◌, Bool, true, false, List, [], Option, Some, None, length, map, slice_get}
use Rattle.std.specs.Coded.{Coded, code_by, coded×, coded_list, coded_ℕ}
use Rattle.std.specs.List.{find, flat_map}
use Rattle.std.specs.Prelude.{refl}
use Rattle.sc_base.specs.Lists.{at_or, numbers_below}
use Rattle.sc_ids.specs.Graphs.{StageData, stage_data}
use Rattle.sc_ids.specs.contracts.blocks.Target.{the_row as target_row}
use Rattle.sc_ids.specs.declared.blocks.BlockId.{BlockId}
use Rattle.sc_ids.specs.declared.blocks.Target.{Target}
use Rattle.sc_ids.specs.declared.blocks.Target.TheVariants as targets
use Rattle.sc_lineage.specs.NodeData.{shuffle_node, sort_by_key}
use Rattle.sc_lineage.specs.ScriptData.{ActionData, WorkData, collect_action, node_of_action, save_action}
use Rattle.sc_lineage.specs.Targets.{TargetData, map_target, result_target}
use Rattle.sc_dag.specs.Outputs.{block_of}
use Rattle.sc_compute.specs.Stages.{mapped_in, node_at}
use Rattle.sc_jobs.specs.contracts.goals.Goal.{the_row as goal_row}
use Rattle.sc_jobs.specs.declared.goals.Goal.{Goal}
use Rattle.sc_jobs.specs.declared.goals.Goal.TheVariants as goals

-- a job
pub record JobData : Type 0 where
  -- what it is for
  pub goal : Goal
  -- its stages, in the order of their numbers
  pub graph : List StageData

abbrev pub job_data : Goal → List StageData → JobData
job_data goal graph = record { goal = goal; graph = graph }

-- the code of a job, by which proofs tell two of them apart
abbrev pub stage_code : Coded StageData
stage_code =
    code_by ((ℕ × Target) × (ℕ × List ℕ))
    (coded× (coded× coded_ℕ target_row.coded) (coded× coded_ℕ (coded_list coded_ℕ)))
    (λ s. ((s.id, s.target), (s.tasks, s.parents)))
    (λ p. stage_data p.0.0 p.0.1 p.1.0 p.1.1) (λ _. refl)

abbrev pub job_code : Coded JobData
job_code =
    code_by (Goal × List StageData) (coded× goal_row.coded (coded_list stage_code))
    (λ j. (j.goal, j.graph)) (λ p. job_data p.0 p.1) (λ _. refl)

-- What is done with the node that a job is for: its action, or for bounds the rows of the sort's
-- parent are collected.
abbrev pub goal_action : WorkData → Goal → ActionData
goal_action work (goals.Action number) = at_or work.script.actions number (collect_action 0)
goal_action work (goals.Bounds sort) = collect_action (mapped_in (node_at work sort) 0)

-- the node that a job is for
abbrev pub goal_node : WorkData → Goal → ℕ
goal_node work goal = node_of_action (goal_action work goal)

-- an action saves
abbrev pub is_saving : ActionData → Bool
is_saving (save_action node dir) = true
is_saving action = false

-- a job saves
abbrev pub saves : WorkData → Goal → Bool
saves work goal = is_saving (goal_action work goal)

-- a work has such a goal: an action of that number, or a sort there
abbrev pub IsGoal : WorkData → Goal → Type 0
IsGoal work (goals.Action number) = number < length work.script.actions
IsGoal work (goals.Bounds sort) =
    (parent n : ℕ) × (slice_get work.script.nodes sort ≡ Some (shuffle_node sort_by_key parent n))

-- the stage of a number, where there is one
abbrev pub stage_in : List StageData → ℕ → Option StageData
stage_in graph id = find (λ stage. stage.id == id) graph

-- the blocks that the tasks of a stage leave, in the order of their partitions
abbrev pub blocks_by : Target → ℕ → List BlockId
blocks_by (targets.Map shuffle) tasks = map (block_of shuffle) (numbers_below tasks)
blocks_by (targets.Result node) tasks = []

abbrev pub blocks_left : Option StageData → List BlockId
blocks_left None = []
blocks_left (Some stage) = blocks_by stage.target stage.tasks

-- the stages whose blocks the tasks of a stage read
abbrev pub parents_in : Option StageData → List ℕ
parents_in None = []
parents_in (Some stage) = stage.parents

-- the blocks that each task of a stage reads: those of its parents, in order
abbrev pub blocks_read : List StageData → ℕ → List BlockId
blocks_read graph id =
    flat_map (λ parent. blocks_left (stage_in graph parent)) (parents_in (stage_in graph id))

-- what a task of a partition is to compute
abbrev pub target_by : WorkData → Goal → Target → ℕ → TargetData
target_by work goal (targets.Map shuffle) p = map_target shuffle.node shuffle.side p
target_by work goal (targets.Result node) p = result_target (goal_action work goal) p

abbrev pub target_among : WorkData → Goal → Option StageData → ℕ → TargetData
target_among work goal None p = result_target (goal_action work goal) p
target_among work goal (Some stage) p = target_by work goal stage.target p

-- what the task of a partition of a stage is to compute, by the stage's number
abbrev pub target_of : WorkData → JobData → ℕ → ℕ → TargetData
target_of work job stage p = target_among work job.goal (stage_in job.graph stage) p

-- a stage that may be there has a task of that partition
abbrev pub HasPartition : Option StageData → ℕ → Type 0
HasPartition None p = ⊥
HasPartition (Some stage) p = p < stage.tasks

-- a job has a task: a stage of that number, with that partition
abbrev pub HasTask : List StageData → ℕ → ℕ → Type 0
HasTask graph stage p = HasPartition (stage_in graph stage) p
