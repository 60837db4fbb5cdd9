-- Tasks, as plain data.
use Rattle.std.specs.Prelude.{ℕ, ◌≡◌, Bool, false, List, Option, Some, None, length, refl}
use Rattle.std.specs.Coded.{Coded, code_by, coded×}
use Rattle.sc_ids.specs.Graphs.{StageData}
use Rattle.sc_ids.specs.declared.blocks.BlockId.{BlockId}
use Rattle.sc_ids.specs.declared.blocks.Target.{Target}
use Rattle.sc_ids.specs.declared.blocks.Target.TheVariants as targets
use Rattle.sc_lineage.specs.ScriptData.{WorkData}
use Rattle.sc_lineage.specs.Targets.{TargetData}
use Rattle.sc_plan.specs.Attempts.{is_failed}
use Rattle.sc_plan.specs.PlanLines.{place_of}
use Rattle.sc_dag.specs.Outputs.{block_of}
use Rattle.sc_dag.specs.Submission.{is_map}
use Rattle.sc_core.specs.HandOuts.{HandOutData}
use Rattle.sc_core.specs.contracts.running.HandOut.{the_row as hand_out_row}
use Rattle.sc_jobs.specs.JobData.{HasTask, JobData, blocks_read, job_code, stage_in, target_of}

-- a task
pub record TaskData : Type 0 where
  -- the job that it is of
  pub job : JobData
  -- what was handed out with it
  pub hand_out : HandOutData

abbrev pub task_data : JobData → HandOutData → TaskData
task_data job hand_out = record { job = job; hand_out = hand_out }

-- the code of a task, by which proofs tell two of them apart
abbrev pub task_code : Coded TaskData
task_code =
    code_by (JobData × HandOutData) (coded× job_code hand_out_row.coded)
    (λ t. (t.job, t.hand_out)) (λ p. task_data p.0 p.1) (λ _. refl)

-- What is handed out is one task of a job: the job has a stage of its number, with its partition,
-- and there is a location for each block that the stage reads.
pub record IsTaskOf (job : JobData) (h : HandOutData) : Type 0 where
  pub task : HasTask job.graph h.attempt.stage h.attempt.partition
  pub inputs : length h.inputs ≡ length (blocks_read job.graph h.attempt.stage)

-- the stage of a task
abbrev pub stage_of_task : TaskData → Option StageData
stage_of_task t = stage_in t.job.graph t.hand_out.attempt.stage

-- the blocks that a task reads, in order
abbrev pub blocks_of_task : TaskData → List BlockId
blocks_of_task t = blocks_read t.job.graph t.hand_out.attempt.stage

-- what a task is to compute
abbrev pub target_of_task : WorkData → TaskData → TargetData
target_of_task work t =
    target_of work t.job t.hand_out.attempt.stage t.hand_out.attempt.partition

-- a stage is one of map tasks
abbrev pub is_map_stage : Option StageData → Bool
is_map_stage None = false
is_map_stage (Some stage) = is_map stage.target

-- a task is one of a map stage
abbrev pub is_map_task : TaskData → Bool
is_map_task t = is_map_stage (stage_of_task t)

-- the block that a task of a partition leaves
abbrev pub block_left : Target → ℕ → Option BlockId
block_left (targets.Map shuffle) p = Some (block_of shuffle p)
block_left (targets.Result node) p = None

abbrev pub block_left_by : Option StageData → ℕ → Option BlockId
block_left_by None p = None
block_left_by (Some stage) p = block_left stage.target p

abbrev pub block_of_task : TaskData → Option BlockId
block_of_task t = block_left_by (stage_of_task t) t.hand_out.attempt.partition

-- the fault plan fails the attempt of a task
abbrev pub is_planned : WorkData → TaskData → Bool
is_planned work t = is_failed work.plan (place_of t.hand_out.attempt)
