-- Which outputs of stages are there, and which are missing.
use Rattle.std.specs.Prelude.{ℕ, List, [], Bool, not, Option, Some, None, filter, is_some, slice_get}
use Rattle.std.specs.List.{list_all}
use Rattle.sc_base.specs.Lists.{at_or, numbers_below}
use Rattle.sc_ids.specs.Graphs.{StageData}
use Rattle.sc_ids.specs.declared.blocks.BlockId.{BlockId}
use Rattle.sc_ids.specs.declared.blocks.ShuffleId.{ShuffleId}
use Rattle.sc_ids.specs.declared.blocks.Target.{Target}
use Rattle.sc_ids.specs.declared.blocks.Target.TheVariants as targets
use Rattle.sc_tracker.specs.TrackerData.{TrackerData, output_of}
use Rattle.sc_dag.specs.DagData.{DagData, StageState, stage_at}

-- what a map task leaves
abbrev pub block_of : ShuffleId → ℕ → BlockId
block_of shuffle map = record { shuffle = shuffle; map = map }

-- a block is registered
abbrev pub is_registered : TrackerData → BlockId → Bool
is_registered t block = is_some (output_of t block).here

-- a partition of a stage is done: its map output is registered, or it has a result
abbrev pub is_done_by : TrackerData → Target → List Bool → ℕ → Bool
is_done_by t (targets.Map shuffle) results p = is_registered t (block_of shuffle p)
is_done_by t (targets.Result node) results p = at_or results p Bool.false

-- all partitions of a stage are done
abbrev pub is_complete_by : TrackerData → StageData → List Bool → Bool
is_complete_by t stage results =
    list_all (is_done_by t stage.target results) (numbers_below stage.tasks)

-- the partitions of a stage that aren't done, in order
abbrev pub missing_by : TrackerData → StageData → List Bool → List ℕ
missing_by t stage results =
    filter (λ p. not (is_done_by t stage.target results p)) (numbers_below stage.tasks)

abbrev pub results_in : Option StageState → List Bool
results_in None = []
results_in (Some state) = state.results

-- the same of the stage of a number
abbrev pub is_done : DagData → ℕ → ℕ → Bool
is_done d s p = is_done_by d.tracker (stage_at d s).target (results_in (slice_get d.states s)) p

abbrev pub is_complete : DagData → ℕ → Bool
is_complete d s = is_complete_by d.tracker (stage_at d s) (results_in (slice_get d.states s))

-- for each partition of a stage whether it is held back: a held grant has denied an attempt of it
abbrev pub held_in : Option StageState → List Bool
held_in None = []
held_in (Some state) = state.held

-- all stages whose outputs a stage reads are complete
abbrev pub has_inputs : DagData → ℕ → Bool
has_inputs d s = list_all (is_complete d) (stage_at d s).parents
