-- Where a node lies by the hash, each row of a partition has the bucket of its number: in the
-- sequential meaning, whether or not something raises.
use Rattle.std.proofs.Common.{◌≡◌, ◌∙◌, ℕ, zero, suc, ◌<◌, ◌≤◌, ◌⊎◌, inl, inr, List, [], Some, None, Ok, length, map, take, ap, sym, subst, arith}
use Rattle.std.proofs.lemmas.Bool.{cases_lt}
use Rattle.std.proofs.lemmas.List.Elements.{All-head}
use Rattle.std.specs.List.{slice_get}
use Rattle.sc_base.specs.Lists.{at_or}
use Rattle.sc_value.specs.Datum.{Datum}
use Rattle.sc_value.specs.Keys.{KeyData}
use Rattle.sc_expr.specs.ExprData.{ExprData}
use Rattle.sc_lineage.specs.declared.nodes.Elementwise.{Elementwise}
use Rattle.sc_lineage.specs.declared.nodes.Elementwise.TheVariants as by
use Rattle.sc_lineage.specs.declared.nodes.Meeting.{Meeting}
use Rattle.sc_lineage.specs.declared.streams.Stream.{Stream}
use Rattle.sc_lineage.specs.Keyed.{Side, met}
use Rattle.sc_lineage.specs.Meaning.{node_streams, part_count, partition_stream}
use Rattle.sc_lineage.specs.Narrow.{at_row, element_of, given_of}
use Rattle.sc_lineage.specs.NodeData.{NodeData, ShufflingData, reduce_by_key, group_by_key, sort_by_key, repartition, text_node, parallelize_node, each_node, union_node, coalesce_node, cache_node, shuffle_node, meet_node}
use Rattle.sc_lineage.specs.Partitioners.{PartitionerData, no_partitioner, hash_partitioner, partitioner_of_each, partitioner_of_shuffle, partitioner_step, partitioners_of}
use Rattle.sc_lineage.specs.ScriptData.{WorkData, IsSoundScript}
use Rattle.sc_lineage.specs.Shuffles.{Dealing, by_hash, bucket_read, dealing_of, map_side, met_stream, of_sides, reduce_side, shuffled_stream, side_of_stream}
use Rattle.sc_lineage.specs.Streams.{ended_stream}
use Rattle.sc_lineage.proofs.ByNodesLemmas.{fold_laws}
use Rattle.sc_lineage.proofs.MeaningLemmas.{partition_is_narrow, reads_before}
use Rattle.sc_lineage.proofs.PlaceLemmas.{at_or-past, at_or-take, slice_get-at_or}
use Rattle.sc_lineage.proofs.ShuffleLemmas.{meet_is, shuffle_is}
use Rattle.sc_laws.proofs.BucketLemmas.{HasBucket, read_keyed}
use Rattle.sc_laws.proofs.KeyLemmas.{AreKeyed, each_keyed, given_keyed, met_keyed, of_sides_keyed, reduce_side_keyed, stream_keyed}

-- streams each of which has the rows of the bucket of its number, of so many
abbrev pub Lie : ℕ → List Stream → Type 0
Lie n streams =
    (p : ℕ) → AreKeyed (HasBucket n p) (at_or streams p (ended_stream None)).rows

-- what keeps a partitioner by the hash has it from its parent
kept_hash : (kind : Elementwise) (lie : PartitionerData) (n : ℕ)
    → partitioner_of_each kind lie ≡ hash_partitioner n → lie ≡ hash_partitioner n
kept_hash by.Map lie n is = cc
kept_hash by.Filter lie n is = is
kept_hash by.FlatMap lie n is = cc
kept_hash by.MapValues lie n is = is
kept_hash by.FlatMapValues lie n is = is

-- a shuffle whose partitioner is by the hash deals by it
pub dealt_by_hash : (kind : ShufflingData) (m n : ℕ) (bounds : List KeyData)
    → partitioner_of_shuffle kind m ≡ hash_partitioner n → dealing_of kind m bounds ≡ by_hash n
dealt_by_hash (reduce_by_key e) m n bounds is = let same : m ≡ n = cc in ap by_hash same
dealt_by_hash group_by_key m n bounds is = let same : m ≡ n = cc in ap by_hash same
dealt_by_hash sort_by_key m n bounds is = cc
dealt_by_hash repartition m n bounds is = cc

-- what a shuffle by the hash gives
shuffled_keyed : (kind : ShufflingData) (m n p : ℕ) (streams : List Stream)
    → partitioner_of_shuffle kind m ≡ hash_partitioner n
    → AreKeyed (HasBucket n p) (shuffled_stream kind (by_hash n) p streams).rows
shuffled_keyed kind m n p streams hash =
    let f : List (List Datum) → Side =
    λ maps. reduce_side kind (bucket_read (by_hash n) p 0 maps) in
    let sides = map (map_side kind) streams in
    stream_keyed (HasBucket n p) (of_sides f sides)
    (of_sides_keyed (HasBucket n p) f sides
    (λ maps. reduce_side_keyed (HasBucket n p) kind m n (bucket_read (by_hash n) p 0 maps) hash
    (read_keyed n p 0 maps)))

-- and what a meeting gives
met_lies : (kind : Meeting) (n p : ℕ) (left right : List Stream)
    → AreKeyed (HasBucket n p) (met_stream kind n p left right).rows
met_lies kind n p left right =
    let second : List (List Datum) → List (List Datum) → Side = λ lefts rights.
    Ok (met kind (bucket_read (by_hash n) p 0 lefts) (bucket_read (by_hash n) p 0 rights)) in
    let lefts = map side_of_stream left in
    let rights = map side_of_stream right in
    let first : List (List Datum) → Side = λ maps. of_sides (second maps) rights in
    stream_keyed (HasBucket n p) (of_sides first lefts)
    (of_sides_keyed (HasBucket n p) first lefts
    (λ maps. of_sides_keyed (HasBucket n p) (second maps) rights
    (λ more. met_keyed (HasBucket n p) kind (bucket_read (by_hash n) p 0 maps)
    (bucket_read (by_hash n) p 0 more) (read_keyed n p 0 maps) (read_keyed n p 0 more))))

module _ (work : WorkData) (sound : IsSoundScript work.script) where
  -- by which rule a node lies
  abbrev pub lies : ℕ → PartitionerData
  lies k = at_or (partitioners_of work.script.nodes) k no_partitioner

  -- the nodes before one lie as they say
  abbrev LieBefore : ℕ → Type 0
  LieBefore k = (q n : ℕ) → q < k → q < length work.script.nodes → lies q ≡ hash_partitioner n
      → Lie n (node_streams work q)

  lies-step : (k : ℕ) (node : NodeData) → slice_get work.script.nodes k ≡ Some node
      → lies k ≡ partitioner_step (take k (partitioners_of work.script.nodes)) node
  lies-step k node is =
      (fold_laws partitioner_step).steps work.script.nodes k node no_partitioner is

  module _ (k n p : ℕ) (within : p < part_count work k) (at : k < length work.script.nodes)
      (below : LieBefore k) where
    abbrev first : List PartitionerData
    first = take k (partitioners_of work.script.nodes)

    -- a parent whose partitioner is kept
    parent_lies : (node : NodeData) (parent : ℕ) → slice_get work.script.nodes k ≡ Some node
        → parent < k → at_or first parent no_partitioner ≡ hash_partitioner n
        → AreKeyed (HasBucket n p) (partition_stream work parent p).rows
    parent_lies node parent is before hash =
        below parent n before (omega arith)
        (sym (at_or-take (partitioners_of work.script.nodes) k parent no_partitioner before) ∙ hash)
        p

    each_lies : (kind : Elementwise) (parent : ℕ) (e : ExprData)
        → slice_get work.script.nodes k ≡ Some (each_node kind parent e)
        → partitioner_of_each kind (at_or first parent no_partitioner) ≡ hash_partitioner n
        → AreKeyed (HasBucket n p) (partition_stream work k p).rows
    each_lies kind parent e is hash =
        let node = each_node kind parent e in
        let before = All-head (λ q. q < k) parent [] (reads_before work.script k node sound is) in
        let read = partition_stream work parent p in
        subst (λ (s : Stream). AreKeyed (HasBucket n p) s.rows)
        (sym (partition_is_narrow [] work k node sound is p tt within))
        (each_keyed (HasBucket n p) (given_of kind) (λ d. at_row e (element_of kind d)) read.rows
        read.raise (given_keyed (HasBucket n p) kind (at_or first parent no_partitioner) n hash)
        (parent_lies node parent is before
        (kept_hash kind (at_or first parent no_partitioner) n hash)))

    cache_lies : (parent : ℕ) → slice_get work.script.nodes k ≡ Some (cache_node parent)
        → at_or first parent no_partitioner ≡ hash_partitioner n
        → AreKeyed (HasBucket n p) (partition_stream work k p).rows
    cache_lies parent is hash =
        let node = cache_node parent in
        let before = All-head (λ q. q < k) parent [] (reads_before work.script k node sound is) in
        subst (λ (s : Stream). AreKeyed (HasBucket n p) s.rows)
        (sym (partition_is_narrow [] work k node sound is p tt within))
        (parent_lies node parent is before hash)

    shuffle_lies : (kind : ShufflingData) (parent m : ℕ)
        → slice_get work.script.nodes k ≡ Some (shuffle_node kind parent m)
        → partitioner_of_shuffle kind m ≡ hash_partitioner n
        → AreKeyed (HasBucket n p) (partition_stream work k p).rows
    shuffle_lies kind parent m is hash =
        let all = node_streams work parent in
        subst (λ (s : Stream). AreKeyed (HasBucket n p) s.rows)
        (sym (shuffle_is [] work k p sound within kind parent m is
        ∙ ap (λ (dealing : Dealing). shuffled_stream kind dealing p all)
        (dealt_by_hash kind m n _ hash)))
        (shuffled_keyed kind m n p all hash)

    meet_lies : (kind : Meeting) (left right m : ℕ)
        → slice_get work.script.nodes k ≡ Some (meet_node kind left right m)
        → hash_partitioner m ≡ hash_partitioner n
        → AreKeyed (HasBucket n p) (partition_stream work k p).rows
    meet_lies kind left right m is hash =
        let same : m ≡ n = cc in
        let lefts = node_streams work left in
        let rights = node_streams work right in
        subst (λ (s : Stream). AreKeyed (HasBucket n p) s.rows)
        (sym (meet_is [] work k p sound within kind left right m is
        ∙ ap (λ i. met_stream kind i p lefts rights) same))
        (met_lies kind n p lefts rights)

    node_lies : (node : NodeData) → slice_get work.script.nodes k ≡ Some node
        → partitioner_step first node ≡ hash_partitioner n
        → AreKeyed (HasBucket n p) (partition_stream work k p).rows
    node_lies (text_node name m) is hash = cc
    node_lies (parallelize_node rows m) is hash = cc
    node_lies (each_node kind parent e) is hash = each_lies kind parent e is hash
    node_lies (union_node left right) is hash = cc
    node_lies (coalesce_node parent m) is hash = cc
    node_lies (cache_node parent) is hash = cache_lies parent is hash
    node_lies (shuffle_node kind parent m) is hash = shuffle_lies kind parent m is hash
    node_lies (meet_node kind left right m) is hash = meet_lies kind left right m is hash

  partition_lies : (k n p : ℕ) → k < length work.script.nodes → lies k ≡ hash_partitioner n
      → LieBefore k → AreKeyed (HasBucket n p) (partition_stream work k p).rows
  partition_lies k n p at hash below = by_count (cases_lt p (part_count work k))
    where
      by_count : (p < part_count work k) ⊎ (part_count work k ≤ p)
          → AreKeyed (HasBucket n p) (partition_stream work k p).rows
      by_count (inl within) =
          let node = at_or work.script.nodes k (cache_node 0) in
          let there = slice_get-at_or work.script.nodes k (cache_node 0) at in
          node_lies k n p within at below node there (sym (lies-step k node there) ∙ hash)
      by_count (inr past) =
          subst (λ (s : Stream). AreKeyed (HasBucket n p) s.rows)
          (sym (at_or-past (node_streams work k) p (ended_stream None) past)) tt

  lie_below : (fuel k n : ℕ) → k < fuel → k < length work.script.nodes
      → lies k ≡ hash_partitioner n → Lie n (node_streams work k)
  lie_below zero k n below at hash = absurd (omega arith)
  lie_below (suc fuel) k n below at hash =
      λ p. partition_lies k n p at hash
      (λ q m first there lie. lie_below fuel q m (omega arith) there lie)

  pub hash_lies : (k n : ℕ) → k < length work.script.nodes → lies k ≡ hash_partitioner n
      → Lie n (node_streams work k)
  hash_lies k n at hash = lie_below (suc k) k n (omega arith) at hash
