-- What a map task of a work leaves.
use Rattle.std.specs.Prelude.{ℕ, ◌≡◌, List, []}
use Rattle.sc_base.specs.Lists.{at_or}
use Rattle.sc_value.specs.Datum.{Datum}
use Rattle.sc_lineage.specs.Meaning.{bounds_of_shuffle, local_streams}
use Rattle.sc_lineage.specs.NodeData.{NodeData, ShufflingData, cache_node, shuffle_node, meet_node}
use Rattle.sc_lineage.specs.ScriptData.{WorkData}
use Rattle.sc_lineage.specs.Shuffles.{Dealing, by_hash, by_range, dealing_of}
use Rattle.sc_lineage.specs.Streams.{whole_stream}
use Rattle.sc_lineage.specs.Targets.{map_target, own_value}
use Rattle.sc_combine.specs.Deals.{IsDealt}

-- how a shuffle of one parent deals its rows out
abbrev pub dealing_in : WorkData → ShufflingData → ℕ → ℕ → Dealing
dealing_in work kind parent n =
    dealing_of kind n (bounds_of_shuffle kind (local_streams work parent) n)

-- how a node's shuffle deals its rows out; a node that isn't made by one has a bucket for all
abbrev pub dealing_of_node : WorkData → NodeData → Dealing
dealing_of_node work (shuffle_node kind parent n) = dealing_in work kind parent n
dealing_of_node work (meet_node kind left right n) = by_hash n
dealing_of_node work node = by_range []

-- how the shuffle of the node of a number deals its rows out
abbrev pub dealing_for : WorkData → ℕ → Dealing
dealing_for work node = dealing_of_node work (at_or work.script.nodes node (cache_node 0))

-- what a task is to leave of a map partition of a side: its own value, which doesn't raise, by
-- bucket
pub record IsOutput (work : WorkData) (node side m : ℕ) (dealt : List (List Datum)) : Type 0 where
  pub rows : List Datum
  pub own : own_value work (map_target node side m) ≡ whole_stream rows
  pub by_bucket : IsDealt (dealing_for work node) m rows dealt
