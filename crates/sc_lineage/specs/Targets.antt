-- What is computed as one task.
use Rattle.std.specs.Prelude.{ℕ}
use Rattle.sc_base.specs.Lists.{at_or}
use Rattle.sc_lineage.specs.declared.streams.Stream.{Stream}
use Rattle.sc_lineage.specs.Actions.{result_of}
use Rattle.sc_lineage.specs.Dependencies.{parents_of}
use Rattle.sc_lineage.specs.Meaning.{local_stream}
use Rattle.sc_lineage.specs.NodeData.{NodeData, cache_node, shuffle_node}
use Rattle.sc_lineage.specs.ScriptData.{ActionData, WorkData, node_of_action}
use Rattle.sc_lineage.specs.Keyed.{Side}
use Rattle.sc_lineage.specs.Shuffles.{map_side, side_of_stream, stream_of_side}

-- a target
pub data TargetData : Type 0 where
  -- the map side of a side of a node's shuffle, from a partition of that side's parent
  map_target : ℕ → ℕ → ℕ → TargetData
  -- the result of a partition for an action
  result_target : ActionData → ℕ → TargetData

-- the map side of a node from the stream of a partition of one of its parents
abbrev pub side_of_node : NodeData → Stream → Side
side_of_node (shuffle_node kind parent n) s = map_side kind s
side_of_node node s = side_of_stream s

-- what a target is to have computed
abbrev pub own_value : WorkData → TargetData → Stream
own_value work (map_target node side m) =
    let kind = at_or work.script.nodes node (cache_node 0) in
    stream_of_side (side_of_node kind (local_stream work (at_or (parents_of kind) side 0) m))
own_value work (result_target action p) =
    result_of action (local_stream work (node_of_action action) p)
