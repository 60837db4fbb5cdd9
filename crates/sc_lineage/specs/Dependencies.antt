-- What a node reads: the nodes that it depends on, and for each of its partitions the partitions of
-- those. A further operation is a line in `dependencies_of`, or a further kind of dependency.
use Rattle.std.specs.Prelude.{ℕ, ◌+◌, ◌-◌, ◌&&◌, nat_le, nat_lt, List, [], ◌∷◌, map, min, option_map, slice_get, unwrap_or, if◌then◌else◌}
use Rattle.std.specs.List.{flat_map, sum}
use Rattle.sc_base.specs.Lists.{at_or, numbers_from}
use Rattle.sc_input.specs.Slices.{slice_start}
use Rattle.sc_lineage.specs.NodeData.{NodeData, text_node, parallelize_node, each_node, union_node, coalesce_node, cache_node, shuffle_node, meet_node}
use Rattle.sc_lineage.specs.Partitioners.{PartitionerData, no_partitioner, hash_partitioner, is_parted_by, partitioner_of_shuffle}

-- a dependency of a node on a parent
pub data Dependency : Type 0 where
  -- each partition reads the parent's partition of the same number
  one_to_one : ℕ → Dependency
  -- the parent's partitions stand behind all those of some other nodes: the first partition behind
  -- the others' reads the parent's first, and so on up to the parent's last
  range_behind : ℕ → List ℕ → Dependency
  -- the parent's partitions are cut into so many even runs, or into runs of one where they are
  -- fewer; each partition reads the run of its number
  grouped : ℕ → ℕ → Dependency
  -- a shuffle: each partition reads all of the parent's partitions, and of each of them the rows
  -- that the partitioner gives it
  shuffled : ℕ → PartitionerData → Dependency

-- the parent of a dependency
abbrev pub parent_of : Dependency → ℕ
parent_of (one_to_one parent) = parent
parent_of (range_behind parent others) = parent
parent_of (grouped parent n) = parent
parent_of (shuffled parent by) = parent

-- what a node depends on, in the order in which it reads: the table of all operations
abbrev pub dependencies_of : NodeData → List Dependency
dependencies_of (text_node name n) = []
dependencies_of (parallelize_node rows n) = []
dependencies_of (each_node kind parent e) = one_to_one parent ∷ []
dependencies_of (union_node left right) = range_behind left [] ∷ range_behind right (left ∷ []) ∷ []
dependencies_of (coalesce_node parent n) = grouped parent n ∷ []
dependencies_of (cache_node parent) = one_to_one parent ∷ []
dependencies_of (shuffle_node kind parent n) = shuffled parent (partitioner_of_shuffle kind n) ∷ []
dependencies_of (meet_node kind left right n) =
    shuffled left (hash_partitioner n) ∷ shuffled right (hash_partitioner n) ∷ []

-- A dependency where some partitioners are known of nodes: rows that already lie as a shuffle asks
-- need none, so partition p reads the parent's partition p alone.
abbrev pub unless_parted : List PartitionerData → Dependency → Dependency
unless_parted known (one_to_one parent) = one_to_one parent
unless_parted known (range_behind parent others) = range_behind parent others
unless_parted known (grouped parent n) = grouped parent n
unless_parted known (shuffled parent by) =
    if is_parted_by by (at_or known parent no_partitioner) then one_to_one parent
    else shuffled parent by

-- what a node depends on, where some partitioners are known
abbrev pub dependencies_by : List PartitionerData → NodeData → List Dependency
dependencies_by known node = map (unless_parted known) (dependencies_of node)

-- the nodes that a node reads, in order
abbrev pub parents_of : NodeData → List ℕ
parents_of node = map parent_of (dependencies_of node)

-- the nodes that the node of a number reads; none, where no node has the number
abbrev pub parents_at : List NodeData → ℕ → List ℕ
parents_at nodes k = unwrap_or (option_map parents_of (slice_get nodes k)) []

-- a partition of a node
pub record PlaceData : Type 0 where
  pub node : ℕ
  pub partition : ℕ

abbrev pub place : ℕ → ℕ → PlaceData
place node partition = record { node = node; partition = partition }

-- what partition p reads of a parent that has so many partitions, the first of them read by
-- partition `start`: one partition, or none
abbrev pub place_behind : ℕ → ℕ → ℕ → ℕ → List PlaceData
place_behind parent start count p =
    if nat_le start p && nat_lt p (start + count) then place parent (p - start) ∷ [] else []

-- the partitions of a node from one up to, not including, another
abbrev pub places_from : ℕ → ℕ → ℕ → List PlaceData
places_from parent from to = map (place parent) (numbers_from from (to - from))

-- the partitions that partition p reads by a dependency, where each node has so many
abbrev pub places_read : (ℕ → ℕ) → ℕ → Dependency → List PlaceData
places_read counts p (one_to_one parent) = place parent p ∷ []
places_read counts p (range_behind parent others) =
    place_behind parent (sum (map counts others)) (counts parent) p
places_read counts p (grouped parent n) =
    places_from parent (slice_start (counts parent) (min n (counts parent)) p)
    (slice_start (counts parent) (min n (counts parent)) (p + 1))
places_read counts p (shuffled parent by) = places_from parent 0 (counts parent)

-- The partitions that partition p of a node reads, by each of its dependencies, where some
-- partitioners are known and each node has so many partitions.
abbrev pub reads_by : List PartitionerData → (ℕ → ℕ) → NodeData → ℕ → List (List PlaceData)
reads_by known counts node p = map (places_read counts p) (dependencies_by known node)

-- a node that isn't made by a shuffle
abbrev pub IsNarrow : NodeData → Type 0
IsNarrow (text_node name n) = Unit {0}
IsNarrow (parallelize_node rows n) = Unit {0}
IsNarrow (each_node kind parent e) = Unit {0}
IsNarrow (union_node left right) = Unit {0}
IsNarrow (coalesce_node parent n) = Unit {0}
IsNarrow (cache_node parent) = Unit {0}
IsNarrow (shuffle_node kind parent n) = ⊥
IsNarrow (meet_node kind left right n) = ⊥

-- the partitions that partition p of a narrow node reads, in order
abbrev pub reads_of : (ℕ → ℕ) → NodeData → ℕ → List PlaceData
reads_of counts node p = flat_map (places_read counts p) (dependencies_of node)
