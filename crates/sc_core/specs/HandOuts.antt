-- What is handed out with a task, as plain data.
use Rattle.std.specs.Prelude.{ℕ, List, [], map}
use Rattle.std.specs.List.{flat_map}
use Rattle.sc_base.specs.Lists.{numbers_below}
use Rattle.sc_ids.specs.declared.attempts.AttemptId.{AttemptId}
use Rattle.sc_ids.specs.declared.blocks.Target.{Target}
use Rattle.sc_ids.specs.declared.blocks.Target.TheVariants as targets
use Rattle.sc_tracker.specs.Outputs.{location_in}
use Rattle.sc_tracker.specs.TrackerData.{TrackerData, output_of}
use Rattle.sc_tracker.specs.declared.outputs.Location.{Location}
use Rattle.sc_dag.specs.DagData.{DagData, stage_at}
use Rattle.sc_dag.specs.Outputs.{block_of}

-- what is handed out with a task
pub record HandOutData : Type 0 where
  pub attempt : AttemptId
  -- the tracker's epoch
  pub epoch : ℕ
  -- where the blocks lie that its stage reads
  pub inputs : List Location

abbrev pub hand_out : AttemptId → ℕ → List Location → HandOutData
hand_out attempt epoch inputs = record { attempt = attempt; epoch = epoch; inputs = inputs }

-- where the outputs of a stage lie, in the order of its map partitions
abbrev pub locations_by : TrackerData → Target → ℕ → List Location
locations_by t (targets.Map shuffle) tasks =
    map (λ m. location_in (output_of t (block_of shuffle m))) (numbers_below tasks)
locations_by t (targets.Result node) tasks = []

-- where the blocks lie that a stage reads: those of its parents, in order
abbrev pub inputs_of : DagData → ℕ → List Location
inputs_of d s =
    flat_map (λ parent. locations_by d.tracker (stage_at d parent).target (stage_at d parent).tasks)
    (stage_at d s).parents
