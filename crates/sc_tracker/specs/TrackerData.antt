-- What a tracker knows, as plain data.
use Rattle.std.specs.Prelude.{ℕ, List, [], Bool, Option, Some, None, slice_get, ◌==◌, ◌&&◌}
use Rattle.std.specs.List.{count_by, position_or_len, sum_by}
use Rattle.sc_ids.specs.declared.blocks.ShuffleId.{ShuffleId}
use Rattle.sc_ids.specs.declared.blocks.BlockId.{BlockId}
use Rattle.sc_tracker.specs.declared.outputs.Output.{Output}
use Rattle.sc_tracker.specs.declared.trust.Trust.{Trust}
use Rattle.sc_tracker.specs.Outputs.{are_here, is_on, output_in}
use Rattle.sc_tracker.specs.Trust.{trust_at}

-- the outputs of a shuffle, in the order of its map partitions
pub record ShuffleData : Type 0 where
  pub shuffle : ShuffleId
  pub outputs : List Output

abbrev pub shuffle_data : ShuffleId → List Output → ShuffleData
shuffle_data shuffle outputs = record { shuffle = shuffle; outputs = outputs }

-- a tracker
pub record TrackerData : Type 0 where
  -- the shuffles that there is room for
  pub shuffles : List ShuffleData
  -- what was heard of each executor, in the order of their numbers
  pub trust : List Trust
  -- how often outputs of an executor were forgotten
  pub epoch : ℕ

abbrev pub tracker_data : List ShuffleData → List Trust → ℕ → TrackerData
tracker_data shuffles trust epoch =
    record { shuffles = shuffles; trust = trust; epoch = epoch }

-- outputs are those of a shuffle
abbrev pub is_of : ShuffleId → ShuffleData → Bool
is_of shuffle s = (s.shuffle.node == shuffle.node) && (s.shuffle.side == shuffle.side)

-- the place of a shuffle among others, and their number where it isn't there
abbrev pub place_of : List ShuffleData → ShuffleId → ℕ
place_of shuffles shuffle = position_or_len (is_of shuffle) shuffles

-- the outputs of a shuffle that may be there
abbrev pub outputs_among : Option ShuffleData → List Output
outputs_among None = []
outputs_among (Some s) = s.outputs

-- the outputs of a shuffle: none where there is no room for it
abbrev pub outputs_under : List ShuffleData → ShuffleId → List Output
outputs_under shuffles shuffle = outputs_among (slice_get shuffles (place_of shuffles shuffle))

abbrev pub outputs_of : TrackerData → ShuffleId → List Output
outputs_of t shuffle = outputs_under t.shuffles shuffle

-- what is known of a block's output: nothing of one that there is no room for
abbrev pub output_under : List ShuffleData → BlockId → Output
output_under shuffles block = output_in (outputs_under shuffles block.shuffle) block.map

abbrev pub output_of : TrackerData → BlockId → Output
output_of t block = output_under t.shuffles block

-- the outputs of the first so many map partitions of a shuffle are all registered
abbrev pub has_all : TrackerData → ShuffleId → ℕ → Bool
has_all t shuffle maps = are_here (outputs_of t shuffle) maps

-- what was heard of an executor: nothing of one that isn't there
abbrev pub trust_of : TrackerData → ℕ → Trust
trust_of t exec = trust_at t.trust exec

-- how many outputs are registered on an executor
abbrev pub registered_on : List ShuffleData → ℕ → ℕ
registered_on shuffles exec =
    sum_by (λ s. count_by (λ output. is_on exec output.here) s.outputs) shuffles
