-- Partitioners: by which rule the rows of a node lie in its partitions, where there is one.
use Rattle.std.specs.Prelude.{ℕ, Bool, false, ◌==◌, List}
use Rattle.sc_base.specs.Lists.{at_or}
use Rattle.sc_lineage.specs.ByNodes.{by_nodes}
use Rattle.sc_lineage.specs.NodeData.{NodeData, ShufflingData, reduce_by_key, group_by_key, sort_by_key, repartition, text_node, parallelize_node, each_node, union_node, coalesce_node, cache_node, shuffle_node, meet_node}
use Rattle.sc_lineage.specs.declared.nodes.Elementwise.{Elementwise}
use Rattle.sc_lineage.specs.declared.nodes.Elementwise.TheVariants as by

-- a partitioner
pub data PartitionerData : Type 0 where
  -- the rows lie by no rule of their keys
  no_partitioner : PartitionerData
  -- a row lies in the bucket of its key's hash, of so many
  hash_partitioner : ℕ → PartitionerData
  -- a row lies in the range of its key, between bounds of the node's own
  range_partitioner : PartitionerData

-- the partitioner of what a shuffle of one parent gives
abbrev pub partitioner_of_shuffle : ShufflingData → ℕ → PartitionerData
partitioner_of_shuffle (reduce_by_key e) n = hash_partitioner n
partitioner_of_shuffle group_by_key n = hash_partitioner n
partitioner_of_shuffle sort_by_key n = range_partitioner
partitioner_of_shuffle repartition n = no_partitioner

-- what an operation row by row leaves of its parent's partitioner: those that keep each row's key
-- keep it
abbrev pub partitioner_of_each : Elementwise → PartitionerData → PartitionerData
partitioner_of_each by.Map parent = no_partitioner
partitioner_of_each by.Filter parent = parent
partitioner_of_each by.FlatMap parent = no_partitioner
partitioner_of_each by.MapValues parent = parent
partitioner_of_each by.FlatMapValues parent = parent

-- the partitioner of a node, from those of the nodes before it
abbrev pub partitioner_step : List PartitionerData → NodeData → PartitionerData
partitioner_step before (text_node name n) = no_partitioner
partitioner_step before (parallelize_node rows n) = no_partitioner
partitioner_step before (each_node kind parent e) =
    partitioner_of_each kind (at_or before parent no_partitioner)
partitioner_step before (union_node left right) = no_partitioner
partitioner_step before (coalesce_node parent n) = no_partitioner
partitioner_step before (cache_node parent) = at_or before parent no_partitioner
partitioner_step before (shuffle_node kind parent n) = partitioner_of_shuffle kind n
partitioner_step before (meet_node kind left right n) = hash_partitioner n

-- the partitioners of nodes
abbrev pub partitioners_of : List NodeData → List PartitionerData
partitioners_of = by_nodes partitioner_step

-- the partitioner of the node of a number; none, where no node has the number
abbrev pub partitioner_at : List NodeData → ℕ → PartitionerData
partitioner_at nodes k = at_or (partitioners_of nodes) k no_partitioner

-- rows that lie by the second already lie as the first asks: both are by the hash, with the same
-- number of buckets
abbrev pub is_parted_by : PartitionerData → PartitionerData → Bool
is_parted_by wanted no_partitioner = false
is_parted_by wanted range_partitioner = false
is_parted_by no_partitioner (hash_partitioner n) = false
is_parted_by range_partitioner (hash_partitioner n) = false
is_parted_by (hash_partitioner m) (hash_partitioner n) = m == n
