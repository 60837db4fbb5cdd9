-- How many partitions a shuffle has.
use Rattle.std.proofs.Common.{◌≡◌, ℕ, ◌<◌, if◌then◌else◌, flat_map, Bool, true, false, List, [], length, map, refl, arith}
use Rattle.std.specs.List.{list_any}
use Rattle.sc_value.specs.Keys.{KeyData}
use Rattle.sc_part.specs.Bounds.{bounds_of}
use Rattle.sc_part.proofs.BoundLemmas.{few_bounds}
use Rattle.sc_lineage.specs.Keyed.{key_of}
use Rattle.sc_lineage.specs.Meaning.{bounds_of_shuffle, parts_of_shuffle}
use Rattle.sc_lineage.specs.NodeData.{ShufflingData, reduce_by_key, group_by_key, sort_by_key, repartition}
use Rattle.sc_lineage.specs.Partitioners.{PartitionerData, no_partitioner, hash_partitioner, range_partitioner, is_parted_by, partitioner_of_shuffle}
use Rattle.sc_lineage.specs.Streams.{raises}
use Rattle.sc_lineage.specs.declared.streams.Stream.{Stream}

-- a shuffle has fewer bounds than partitions are asked for
pub fewer_bounds : (kind : ShufflingData) (streams : List Stream) (n : ℕ) → 0 < n
    → length (bounds_of_shuffle kind streams n) < n
fewer_bounds (reduce_by_key e) streams n some = some
fewer_bounds group_by_key streams n some = some
fewer_bounds sort_by_key streams n some =
    decided (list_any raises streams) (map key_of (flat_map (λ s. s.rows) streams))
  where
    decided : (b : Bool) (keys : List KeyData)
        → length (if b then [] else bounds_of keys n) < n
    decided true keys = some
    decided false keys = let few = few_bounds keys n in omega (arith, few)
fewer_bounds repartition streams n some = some

-- a shuffle that is skipped has as many partitions as are asked for
pub skipped_parts : (kind : ShufflingData) (lies : PartitionerData) (n : ℕ) (bounds : List KeyData)
    → is_parted_by (partitioner_of_shuffle kind n) lies ≡ true
    → n ≡ parts_of_shuffle kind n bounds
skipped_parts (reduce_by_key e) lies n bounds is = refl
skipped_parts group_by_key lies n bounds is = refl
skipped_parts sort_by_key no_partitioner n bounds is = cc
skipped_parts sort_by_key range_partitioner n bounds is = cc
skipped_parts sort_by_key (hash_partitioner m) n bounds is = cc
skipped_parts repartition lies n bounds is = refl
