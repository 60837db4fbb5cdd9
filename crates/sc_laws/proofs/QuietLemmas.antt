-- A node that raises nowhere has parents that raise nowhere, as far as the partitioners that are
-- known tell how many partitions nodes have.
use Rattle.std.proofs.Common.{◌≡◌, ◌∙◌, ℕ, ◌<◌, ◌≤◌, Bool, true, false, if◌then◌else◌, List, [], ◌∷◌, Some, length, refl, ap, sym, arith, eqb-true, true≢false}
use Rattle.std.proofs.lemmas.List.Elements.{All-head, All-tail}
use Rattle.std.proofs.lemmas.Option.{slice_get_within}
use Rattle.std.specs.List.{slice_get, AllByRecursion}
use Rattle.sc_base.specs.Lists.{at_or}
use Rattle.sc_value.specs.Keys.{KeyData}
use Rattle.sc_lineage.specs.declared.nodes.Meeting.{Meeting}
use Rattle.sc_lineage.specs.Dependencies.{parents_of}
use Rattle.sc_lineage.specs.Meaning.{bounds_of_shuffle, bounds_step, meanings_by, node_streams_by, part_count_by, partition_stream_by, parts_of_shuffle}
use Rattle.sc_lineage.specs.NodeData.{NodeData, ShufflingData, reduce_by_key, group_by_key, sort_by_key, repartition, text_node, parallelize_node, each_node, union_node, coalesce_node, cache_node, shuffle_node, meet_node}
use Rattle.sc_lineage.specs.Partitioners.{PartitionerData, no_partitioner, hash_partitioner, range_partitioner, is_parted_by, partitioner_of_shuffle}
use Rattle.sc_lineage.specs.ScriptData.{WorkData, IsSoundScript}
use Rattle.sc_lineage.specs.Shuffles.{dealing_of}
use Rattle.sc_lineage.specs.Streams.{raises}
use Rattle.sc_lineage.proofs.CountLemmas.{count_is_some}
use Rattle.sc_lineage.proofs.MeaningLemmas.{part_count-step, reads_before}
use Rattle.sc_lineage.proofs.ShuffleLemmas.{meet_is, shuffle_is, streams_for}
use Rattle.sc_laws.proofs.NarrowLemmas.{parents_silent}
use Rattle.sc_laws.proofs.SideLemmas.{met_silent, shuffled_silent}
use Rattle.sc_laws.proofs.StreamLemmas.{AreSilent, neither, silent_at, silent_by}

-- rows that lie already as is asked lie by the hash, with as many buckets
pub parted_by_hash : (wanted lie : PartitionerData) → is_parted_by wanted lie ≡ true
    → (n : ℕ) × (wanted ≡ hash_partitioner n) × (lie ≡ hash_partitioner n)
parted_by_hash wanted no_partitioner parted = absurd (true≢false (sym parted))
parted_by_hash wanted range_partitioner parted = absurd (true≢false (sym parted))
parted_by_hash no_partitioner (hash_partitioner n) parted = absurd (true≢false (sym parted))
parted_by_hash range_partitioner (hash_partitioner n) parted = absurd (true≢false (sym parted))
parted_by_hash (hash_partitioner m) (hash_partitioner n) parted =
    (n, ap hash_partitioner (eqb-true m n parted), refl)

-- a shuffle by the hash has as many partitions as there are buckets
parts_by_hash : (kind : ShufflingData) (m n : ℕ) (bounds : List KeyData)
    → partitioner_of_shuffle kind m ≡ hash_partitioner n → parts_of_shuffle kind m bounds ≡ n
parts_by_hash (reduce_by_key e) m n bounds is = cc
parts_by_hash group_by_key m n bounds is = cc
parts_by_hash sort_by_key m n bounds is = cc
parts_by_hash repartition m n bounds is = cc

module _ (known : List PartitionerData) (work : WorkData) (sound : IsSoundScript work.script) where
  -- nodes that are known to lie by the hash have as many partitions as there are buckets
  abbrev pub TellCounts : Type 0
  TellCounts = (q n : ℕ) → q < length work.script.nodes
      → at_or known q no_partitioner ≡ hash_partitioner n → part_count_by known work q ≡ n

  pub shuffle_count : (k : ℕ) (kind : ShufflingData) (parent m n : ℕ)
      → slice_get work.script.nodes k ≡ Some (shuffle_node kind parent m)
      → partitioner_of_shuffle kind m ≡ hash_partitioner n → part_count_by known work k ≡ n
  shuffle_count k kind parent m n is hash =
      part_count-step known work k (shuffle_node kind parent m) sound is
      ∙ parts_by_hash kind m n
      (bounds_step (meanings_by known work) (shuffle_node kind parent m)) hash

  -- a parent is read whole by the partitions of a node
  whole_silent : (wanted : PartitionerData) (parent count : ℕ) → 1 ≤ count
      → (is_parted_by wanted (at_or known parent no_partitioner) ≡ true
      → part_count_by known work parent ≡ count)
      → ((p : ℕ) → p < count → AreSilent (streams_for known work wanted parent p))
      → AreSilent (node_streams_by known work parent)
  whole_silent wanted parent count some same each =
      decided (is_parted_by wanted (at_or known parent no_partitioner)) same each
    where
      decided : (b : Bool) → (b ≡ true → part_count_by known work parent ≡ count)
          → ((p : ℕ) → p < count → AreSilent (if b then partition_stream_by known work parent p ∷ []
          else node_streams_by known work parent))
          → AreSilent (node_streams_by known work parent)
      decided true as_many each =
          silent_by (node_streams_by known work parent)
          (λ p within. (neither (raises (partition_stream_by known work parent p)) false
          (each p (omega (arith, as_many refl)))).0)
      decided false as_many each = each 0 some

  module _ (tell : TellCounts) (k : ℕ) (silent : AreSilent (node_streams_by known work k)) where
    -- a parent that needs no shuffle has as many partitions as the node
    as_many_of : (wanted : PartitionerData) (parent : ℕ) → parent < length work.script.nodes
        → ((n : ℕ) → wanted ≡ hash_partitioner n → part_count_by known work k ≡ n)
        → is_parted_by wanted (at_or known parent no_partitioner) ≡ true
        → part_count_by known work parent ≡ part_count_by known work k
    as_many_of wanted parent there count parted =
        let hash = parted_by_hash wanted (at_or known parent no_partitioner) parted in
        tell parent hash.0 there hash.2 ∙ sym (count hash.0 hash.1)

    shuffle_quiet : (kind : ShufflingData) (parent n : ℕ)
        → slice_get work.script.nodes k ≡ Some (shuffle_node kind parent n)
        → AreSilent (node_streams_by known work parent)
    shuffle_quiet kind parent n is =
        let node = shuffle_node kind parent n in
        let wanted = partitioner_of_shuffle kind n in
        let dealing = dealing_of kind n
        (bounds_of_shuffle kind (node_streams_by known work parent) n) in
        let at : k < length work.script.nodes = slice_get_within work.script.nodes k node is in
        let before = All-head (λ q. q < k) parent [] (reads_before work.script k node sound is) in
        whole_silent wanted parent (part_count_by known work k)
        (count_is_some known work sound k at)
        (as_many_of wanted parent (omega arith) (λ m hash. shuffle_count k kind parent n m is hash))
        (λ p within. shuffled_silent kind dealing p (streams_for known work wanted parent p)
        (ap raises (sym (shuffle_is known work k p sound within kind parent n is))
        ∙ silent_at (node_streams_by known work k) p silent))

    meet_quiet : (kind : Meeting) (left right n : ℕ)
        → slice_get work.script.nodes k ≡ Some (meet_node kind left right n)
        → AreSilent (node_streams_by known work left) × AreSilent (node_streams_by known work right)
    meet_quiet kind left right n is =
        let node = meet_node kind left right n in
        let wanted = hash_partitioner n in
        let at : k < length work.script.nodes = slice_get_within work.script.nodes k node is in
        let some = count_is_some known work sound k at in
        let P : ℕ → Type 0 = λ q. q < k in
        let before = reads_before work.script k node sound is in
        let first : left < k = All-head P left (right ∷ []) before in
        let second : right < k = All-head P right [] (All-tail P left (right ∷ []) before) in
        let count : (m : ℕ) → wanted ≡ hash_partitioner m → part_count_by known work k ≡ m =
        λ m hash. part_count-step known work k node sound is ∙ (let same : n ≡ m = cc in same) in
        let each : (p : ℕ) → p < part_count_by known work k
        → AreSilent (streams_for known work wanted left p)
        × AreSilent (streams_for known work wanted right p) =
        λ p within. met_silent kind n p (streams_for known work wanted left p)
        (streams_for known work wanted right p)
        (ap raises (sym (meet_is known work k p sound within kind left right n is))
        ∙ silent_at (node_streams_by known work k) p silent) in (
          whole_silent wanted left (part_count_by known work k) some
              (as_many_of wanted left (omega arith) count) (λ p within. (each p within).0),
          whole_silent wanted right (part_count_by known work k) some
              (as_many_of wanted right (omega arith) count) (λ p within. (each p within).1),
        )

    pub parents_quiet : (node : NodeData) → slice_get work.script.nodes k ≡ Some node
        → AllByRecursion (λ q. AreSilent (node_streams_by known work q)) (parents_of node)
    parents_quiet (text_node name n) is = tt
    parents_quiet (parallelize_node rows n) is = tt
    parents_quiet (each_node kind parent e) is =
        parents_silent known work k (each_node kind parent e) sound tt is silent
    parents_quiet (union_node left right) is =
        parents_silent known work k (union_node left right) sound tt is silent
    parents_quiet (coalesce_node parent n) is =
        parents_silent known work k (coalesce_node parent n) sound tt is silent
    parents_quiet (cache_node parent) is =
        parents_silent known work k (cache_node parent) sound tt is silent
    parents_quiet (shuffle_node kind parent n) is = (shuffle_quiet kind parent n is, tt)
    parents_quiet (meet_node kind left right n) is =
        let both = meet_quiet kind left right n is in (both.0, (both.1, tt))
