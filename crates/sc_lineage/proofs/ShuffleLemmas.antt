-- Partitions of shuffles, by the streams of their parents.
use Rattle.std.proofs.Common.{◌≡◌, ◌∙◌, ℕ, zero, suc, ◌+◌, ◌-◌, ◌<◌, Bool, true, false, if◌then◌else◌, List, [], ◌∷◌, Some, None, length, map, take, refl, ap, ap₂, sym, arith}
use Rattle.std.proofs.lemmas.List.Elements.{All-head}
use Rattle.std.specs.List.{slice_get}
use Rattle.sc_base.specs.Lists.{at_or, numbers_from}
use Rattle.sc_lineage.specs.declared.nodes.Elementwise.{Elementwise}
use Rattle.sc_lineage.specs.declared.nodes.Elementwise.TheVariants as by
use Rattle.sc_lineage.specs.declared.nodes.Meeting.{Meeting}
use Rattle.sc_lineage.specs.declared.streams.Stream.{Stream}
use Rattle.sc_lineage.specs.Dependencies.{one_to_one, shuffled, place, places_from, places_read}
use Rattle.sc_lineage.specs.Meaning.{bounds_of_shuffle, bounds_step, meanings_by, node_streams_by, part_count_by, partition_stream_by, parts_step, stream_at, stream_count}
use Rattle.sc_lineage.specs.NodeData.{NodeData, ShufflingData, reduce_by_key, group_by_key, sort_by_key, repartition, text_node, parallelize_node, each_node, union_node, coalesce_node, cache_node, shuffle_node, meet_node}
use Rattle.sc_lineage.specs.Partitioners.{PartitionerData, no_partitioner, hash_partitioner, is_parted_by, partitioner_of_each, partitioner_of_shuffle, partitioner_step, partitioners_of}
use Rattle.sc_lineage.specs.ScriptData.{WorkData, IsSoundScript}
use Rattle.sc_lineage.specs.Shuffles.{dealing_of, met_stream, shuffled_stream}
use Rattle.sc_lineage.specs.Streams.{ended_stream}
use Rattle.sc_lineage.proofs.PlaceLemmas.{at_or-map_any, at_or-take, slice_get-at_or}
use Rattle.sc_lineage.proofs.ByNodesLemmas.{fold_laws}
use Rattle.sc_lineage.proofs.MeaningLemmas.{part_count-step, partition_is_made, reads_before}

-- the streams of all partitions of a node, behind those before one of them
all_from : (streams : List (List Stream)) (node first : ℕ) (all rest : List Stream)
    → ((i : ℕ) → stream_at streams (place node (first + i)) ≡ at_or rest i (ended_stream None))
    → map (stream_at streams) (map (place node) (numbers_from first (length rest))) ≡ rest
all_from streams node first all [] each = refl
all_from streams node first all (s ∷ rest) each =
    let here : first ≡ first + 0 = omega arith in
    ap₂ (λ t ts. t ∷ ts) (ap (λ i. stream_at streams (place node i)) here ∙ each 0)
    (all_from streams node (suc first) all rest
    (λ i. let next : suc first + i ≡ first + suc i = omega arith in
    ap (λ j. stream_at streams (place node j)) next ∙ each (suc i)))

pub streams_of_all : (streams : List (List Stream)) (node : ℕ)
    → map (stream_at streams) (places_from node 0 (stream_count streams node))
    ≡ at_or streams node []
streams_of_all streams node =
    let all = at_or streams node [] in
    let none : length all - 0 ≡ length all = omega arith in
    ap (λ n. map (stream_at streams) (map (place node) (numbers_from 0 n))) none
    ∙ all_from streams node 0 all all
    (λ i. let same : 0 + i ≡ i = omega arith in
    ap (λ j. stream_at streams (place node j)) same)

-- The streams that partition p of a shuffle reads of a parent: all of them, or its own where the
-- rows already lie as it asks.
abbrev pub streams_for :
    List PartitionerData → WorkData → PartitionerData → ℕ → ℕ → List Stream
streams_for known work wanted parent p =
    if is_parted_by wanted (at_or known parent no_partitioner)
    then partition_stream_by known work parent p ∷ []
    else node_streams_by known work parent

module _ (known : List PartitionerData) (work : WorkData) where
  read_for : (wanted : PartitionerData) (parent p : ℕ)
      → map (stream_at (meanings_by known work))
      (places_read (stream_count (meanings_by known work)) p
      (if is_parted_by wanted (at_or known parent no_partitioner) then one_to_one parent
      else shuffled parent wanted))
      ≡ streams_for known work wanted parent p
  read_for wanted parent p = decided (is_parted_by wanted (at_or known parent no_partitioner))
    where
      decided : (b : Bool) → map (stream_at (meanings_by known work))
          (places_read (stream_count (meanings_by known work)) p
          (if b then one_to_one parent else shuffled parent wanted))
          ≡ (if b then partition_stream_by known work parent p ∷ []
          else node_streams_by known work parent)
      decided true = refl
      decided false = streams_of_all (meanings_by known work) parent

  module _ (k p : ℕ) (sound : IsSoundScript work.script)
      (within : p < part_count_by known work k) where
    pub shuffle_is : (kind : ShufflingData) (parent n : ℕ)
        → slice_get work.script.nodes k ≡ Some (shuffle_node kind parent n)
        → partition_stream_by known work k p
        ≡ shuffled_stream kind
        (dealing_of kind n (bounds_of_shuffle kind (node_streams_by known work parent) n)) p
        (streams_for known work (partitioner_of_shuffle kind n) parent p)
    shuffle_is kind parent n is =
        let dealing = dealing_of kind n
        (bounds_of_shuffle kind (node_streams_by known work parent) n) in
        partition_is_made known work k (shuffle_node kind parent n) sound is p within
        ∙ ap (shuffled_stream kind dealing p)
        (read_for (partitioner_of_shuffle kind n) parent p)

    pub meet_is : (kind : Meeting) (left right n : ℕ)
        → slice_get work.script.nodes k ≡ Some (meet_node kind left right n)
        → partition_stream_by known work k p
        ≡ met_stream kind n p (streams_for known work (hash_partitioner n) left p)
        (streams_for known work (hash_partitioner n) right p)
    meet_is kind left right n is =
        partition_is_made known work k (meet_node kind left right n) sound is p within
        ∙ ap₂ (met_stream kind n p) (read_for (hash_partitioner n) left p)
        (read_for (hash_partitioner n) right p)

-- A node that lies by the hash has as many partitions as there are buckets.
module _ (known : List PartitionerData) (work : WorkData) (sound : IsSoundScript work.script) where
  abbrev lies : ℕ → PartitionerData
  lies k = at_or (partitioners_of work.script.nodes) k no_partitioner

  -- the partitioner of a node, by those of its parents
  lies-step : (k : ℕ) (node : NodeData) → slice_get work.script.nodes k ≡ Some node
      → lies k ≡ partitioner_step (take k (partitioners_of work.script.nodes)) node
  lies-step k node is =
      (fold_laws partitioner_step).steps work.script.nodes k node no_partitioner is

  count-step : (k : ℕ) (node : NodeData) → slice_get work.script.nodes k ≡ Some node
      → part_count_by known work k ≡ parts_step (bounds_step (meanings_by known work) node)
      (map length (meanings_by known work)) node
  count-step k node is = part_count-step known work k node sound is

  of_each : (kind : Elementwise) (lie : PartitionerData) (n : ℕ)
      → partitioner_of_each kind lie ≡ hash_partitioner n → lie ≡ hash_partitioner n
  of_each by.Map lie n is = cc
  of_each by.Filter lie n is = is
  of_each by.FlatMap lie n is = cc
  of_each by.MapValues lie n is = is
  of_each by.FlatMapValues lie n is = is

  same_number : (m n : ℕ) → hash_partitioner m ≡ hash_partitioner n → m ≡ n
  same_number m n is = cc

  of_shuffle : (kind : ShufflingData) (parent m n : ℕ)
      → partitioner_of_shuffle kind m ≡ hash_partitioner n
      → parts_step (bounds_step (meanings_by known work) (shuffle_node kind parent m))
      (map length (meanings_by known work)) (shuffle_node kind parent m) ≡ n
  of_shuffle (reduce_by_key e) parent m n is = same_number m n is
  of_shuffle group_by_key parent m n is = same_number m n is
  of_shuffle sort_by_key parent m n is = cc
  of_shuffle repartition parent m n is = cc

  -- the count of a parent whose partitioner is kept
  count_of_kept : (k parent n : ℕ) → ((j m : ℕ) → j < k → j < length work.script.nodes
      → lies j ≡ hash_partitioner m → part_count_by known work j ≡ m)
      → parent < k → k < length work.script.nodes
      → at_or (take k (partitioners_of work.script.nodes)) parent no_partitioner
      ≡ hash_partitioner n
      → at_or (map length (meanings_by known work)) parent 0 ≡ n
  count_of_kept k parent n below before at is =
      at_or-map_any length (meanings_by known work) parent []
      ∙ below parent n before (omega arith)
      (sym (at_or-take (partitioners_of work.script.nodes) k parent no_partitioner before) ∙ is)

  by_kind : (k n : ℕ) (node : NodeData) → ((j m : ℕ) → j < k → j < length work.script.nodes
      → lies j ≡ hash_partitioner m → part_count_by known work j ≡ m)
      → k < length work.script.nodes → slice_get work.script.nodes k ≡ Some node
      → partitioner_step (take k (partitioners_of work.script.nodes)) node ≡ hash_partitioner n
      → parts_step (bounds_step (meanings_by known work) node)
      (map length (meanings_by known work)) node ≡ n
  by_kind k n (text_node name m) below at is lie = cc
  by_kind k n (parallelize_node rows m) below at is lie = cc
  by_kind k n (each_node kind parent e) below at is lie =
      count_of_kept k parent n below
      (All-head (λ q. q < k) parent [] (reads_before work.script k (each_node kind parent e) sound
      is))
      at (of_each kind
      (at_or (take k (partitioners_of work.script.nodes)) parent no_partitioner) n lie)
  by_kind k n (union_node left right) below at is lie = cc
  by_kind k n (coalesce_node parent m) below at is lie = cc
  by_kind k n (cache_node parent) below at is lie =
      count_of_kept k parent n below
      (All-head (λ q. q < k) parent [] (reads_before work.script k (cache_node parent) sound is))
      at lie
  by_kind k n (shuffle_node kind parent m) below at is lie = of_shuffle kind parent m n lie
  by_kind k n (meet_node kind left right m) below at is lie = same_number m n lie

  count_below : (fuel k n : ℕ) → k < fuel → k < length work.script.nodes
      → lies k ≡ hash_partitioner n → part_count_by known work k ≡ n
  count_below zero k n below at is = absurd (omega arith)
  count_below (suc fuel) k n below at is =
      let node = at_or work.script.nodes k (cache_node 0) in
      let there = slice_get-at_or work.script.nodes k (cache_node 0) at in
      count-step k node there
      ∙ by_kind k n node (λ j m first known_j lie. count_below fuel j m (omega arith) known_j lie)
      at there (sym (lies-step k node there) ∙ is)

  pub hash_count : (k n : ℕ) → k < length work.script.nodes → lies k ≡ hash_partitioner n
      → part_count_by known work k ≡ n
  hash_count k n at is = count_below (suc k) k n (omega arith) at is
