-- The data that the program's nodes, actions, places and partitioners stand for.
use Rattle.sc_expr.specs.Views.{expr_data_of}
use Rattle.sc_lineage.specs.Dependencies.{PlaceData}
use Rattle.sc_lineage.specs.NodeData.{NodeData, ShufflingData, reduce_by_key, group_by_key, sort_by_key, repartition, text_node, parallelize_node, each_node, union_node, coalesce_node, cache_node, shuffle_node, meet_node}
use Rattle.sc_lineage.specs.Partitioners.{PartitionerData, no_partitioner, hash_partitioner, range_partitioner}
use Rattle.sc_lineage.specs.declared.nodes.Shuffling.{Shuffling}
use Rattle.sc_lineage.specs.declared.nodes.Shuffling.TheVariants as shufflings
use Rattle.sc_lineage.specs.declared.partitioners.Partitioner.{Partitioner}
use Rattle.sc_lineage.specs.declared.partitioners.Partitioner.TheVariants as partitioners
use Rattle.sc_lineage.specs.ScriptData.{ActionData, collect_action, count_action, reduce_action, save_action}
use Rattle.sc_lineage.specs.declared.nodes.Node.{Node}
use Rattle.sc_lineage.specs.declared.nodes.Node.TheVariants as nodes
use Rattle.sc_lineage.specs.declared.nodes.Action.{Action}
use Rattle.sc_lineage.specs.declared.nodes.Action.TheVariants as actions
use Rattle.sc_lineage.specs.declared.dependencies.Place.{Place}

-- what a shuffle of one parent does
abbrev pub shuffling_data_of : Shuffling → ShufflingData
shuffling_data_of (shufflings.ReduceByKey expr) = reduce_by_key (expr_data_of expr)
shuffling_data_of shufflings.GroupByKey = group_by_key
shuffling_data_of shufflings.SortByKey = sort_by_key
shuffling_data_of shufflings.Repartition = repartition

-- what a node stands for
abbrev pub node_data_of : Node → NodeData
node_data_of (nodes.Text input slices) = text_node input slices
node_data_of (nodes.Parallelize literals slices) = parallelize_node literals slices
node_data_of (nodes.Each kind parent expr) = each_node kind parent (expr_data_of expr)
node_data_of (nodes.Union left right) = union_node left right
node_data_of (nodes.Coalesce parent partitions) = coalesce_node parent partitions
node_data_of (nodes.Cache parent) = cache_node parent
node_data_of (nodes.Shuffle kind parent partitions) =
    shuffle_node (shuffling_data_of kind) parent partitions
node_data_of (nodes.Meet kind left right partitions) = meet_node kind left right partitions

-- what an action stands for
abbrev pub action_data_of : Action → ActionData
action_data_of (actions.Collect node) = collect_action node
action_data_of (actions.Count node) = count_action node
action_data_of (actions.Reduce node expr) = reduce_action node (expr_data_of expr)
action_data_of (actions.Save node dir) = save_action node dir

-- what a place stands for
abbrev pub place_data_of : Place → PlaceData
place_data_of p = record { node = p.node; partition = p.partition }

-- what a partitioner stands for
abbrev pub partitioner_data_of : Partitioner → PartitionerData
partitioner_data_of partitioners.Unknown = no_partitioner
partitioner_data_of (partitioners.Hash n) = hash_partitioner n
partitioner_data_of partitioners.Range = range_partitioner
