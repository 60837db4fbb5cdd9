-- A node whose parents have the same streams by both meanings, and raise nowhere, has the same
-- streams itself, as soon as it raises nowhere by one of them.
use Rattle.std.proofs.Common.{◌≡◌, ◌∙◌, ℕ, ◌<◌, ◌≤◌, ◌⊎◌, inl, inr, Bool, true, false, List, [], ◌∷◌, Some, None, Ok, length, map, refl, ap, ap₂, sym, arith}
use Rattle.std.proofs.lemmas.List.Elements.{All-head, All-tail}
use Rattle.std.proofs.lemmas.Option.{slice_get_within}
use Rattle.std.specs.List.{slice_get, AllByRecursion}
use Rattle.sc_base.specs.Lists.{at_or}
use Rattle.sc_value.specs.Datum.{Datum}
use Rattle.sc_lineage.specs.declared.nodes.Meeting.{Meeting}
use Rattle.sc_lineage.specs.declared.streams.Stream.{Stream}
use Rattle.sc_lineage.specs.Dependencies.{parents_of}
use Rattle.sc_lineage.specs.Keyed.{Side}
use Rattle.sc_lineage.specs.Meaning.{bounds_of_shuffle, known_of, local_streams, node_streams, part_count, part_count_by, partition_stream, partition_stream_by}
use Rattle.sc_lineage.specs.NodeData.{NodeData, ShufflingData, text_node, parallelize_node, each_node, union_node, coalesce_node, cache_node, shuffle_node, meet_node}
use Rattle.sc_lineage.specs.Partitioners.{PartitionerData, hash_partitioner, is_parted_by, partitioner_of_shuffle}
use Rattle.sc_lineage.specs.ScriptData.{WorkData, IsSoundScript}
use Rattle.sc_lineage.specs.Shuffles.{Dealing, by_hash, dealing_of, map_side, met_stream, shuffled_stream}
use Rattle.sc_lineage.specs.Streams.{ended_stream, raises}
use Rattle.sc_lineage.proofs.CountLemmas.{count_is_some}
use Rattle.sc_lineage.proofs.MeaningLemmas.{reads_before}
use Rattle.sc_lineage.proofs.ShuffleLemmas.{hash_count, meet_is, shuffle_is}
use Rattle.sc_laws.proofs.NarrowLemmas.{narrow_same}
use Rattle.sc_laws.proofs.PlacedLemmas.{Lie, dealt_by_hash, hash_lies, lies}
use Rattle.sc_laws.proofs.QuietLemmas.{parted_by_hash, shuffle_count}
use Rattle.sc_laws.proofs.SideLemmas.{AreRead, IsRead, read_each, shuffled_read}
use Rattle.sc_laws.proofs.SkipLemmas.{meet_skipped, own_or_all, shuffle_skipped}
use Rattle.sc_laws.proofs.StreamLemmas.{AreSilent, same_by_places, silent_at}

-- the one side that is read
first_read : (side : Side) (maps : List (List Datum)) → side ∷ [] ≡ map Ok maps → IsRead side
first_read side [] is = cc
first_read side (rows ∷ maps) is = let first : side ≡ Ok rows = cc in (rows, first)

-- What partitions of a shuffle by the hash give: each from all partitions of the parent, and each
-- from that of its number alone.
module _ (kind : ShufflingData) (n count : ℕ) (streams : List Stream) (lie : Lie n streams)
    (as_many : length streams ≡ count) where
  abbrev own : ℕ → Stream
  own p = shuffled_stream kind (by_hash n) p (own_or_all true p streams)

  abbrev whole : ℕ → Stream
  whole p = shuffled_stream kind (by_hash n) p streams

  -- where either raises nowhere, all sides are read
  every_side_read : 1 ≤ count
      → ((p : ℕ) → p < count → raises (whole p) ≡ false)
      ⊎ ((p : ℕ) → p < count → raises (own p) ≡ false)
      → AreRead (map (map_side kind) streams)
  every_side_read some (inl silent) = shuffled_read kind (by_hash n) 0 streams (silent 0 some)
  every_side_read some (inr silent) =
      read_each kind streams
      (λ p within. let one : AreRead (map (map_side kind) (own_or_all true p streams)) =
      shuffled_read kind (by_hash n) p (own_or_all true p streams) (silent p (omega arith)) in
      first_read (map_side kind (at_or streams p (ended_stream None))) one.0 one.1)

  pub whole_or_own : 1 ≤ count
      → ((p : ℕ) → p < count → raises (whole p) ≡ false)
      ⊎ ((p : ℕ) → p < count → raises (own p) ≡ false)
      → (p : ℕ) → p < count → own p ≡ whole p
  whole_or_own some silent p within =
      let read = every_side_read some silent in
      shuffle_skipped kind n p streams read.0 lie (omega arith) read.1

module _ (work : WorkData) (sound : IsSoundScript work.script) (k : ℕ)
    (counts : part_count_by (known_of work) work k ≡ part_count work k) where
  -- one of the meanings of the node raises nowhere
  abbrev IsQuiet : Type 0
  IsQuiet = AreSilent (node_streams work k) ⊎ AreSilent (local_streams work k)

  abbrev IsSame : ℕ → Type 0
  IsSame q = local_streams work q ≡ node_streams work q

  -- a parent that needs no shuffle lies by the hash
  lies_by : (wanted : PartitionerData) (parent n : ℕ) → parent < length work.script.nodes
      → wanted ≡ hash_partitioner n → is_parted_by wanted (lies work sound parent) ≡ true
      → lies work sound parent ≡ hash_partitioner n
  lies_by wanted parent n there is parted =
      let hash = parted_by_hash wanted (lies work sound parent) parted in
      hash.2 ∙ sym hash.1 ∙ is

  module _ (kind : ShufflingData) (parent n : ℕ)
      (is : slice_get work.script.nodes k ≡ Some (shuffle_node kind parent n))
      (same : IsSame parent) where
    abbrev streams : List Stream
    streams = node_streams work parent

    abbrev dealing : Dealing
    dealing = dealing_of kind n (bounds_of_shuffle kind streams n)

    abbrev skips : Bool
    skips = is_parted_by (partitioner_of_shuffle kind n) (lies work sound parent)

    sequential_is : (p : ℕ) → p < part_count work k
        → partition_stream work k p ≡ shuffled_stream kind dealing p streams
    sequential_is p within = shuffle_is [] work k p sound within kind parent n is

    local_is : (p : ℕ) → p < part_count work k
        → partition_stream_by (known_of work) work k p
        ≡ shuffled_stream kind dealing p (own_or_all skips p streams)
    local_is p within =
        shuffle_is (known_of work) work k p sound (omega arith) kind parent n is
        ∙ ap (λ (ss : List Stream). shuffled_stream kind
        (dealing_of kind n (bounds_of_shuffle kind ss n)) p (own_or_all skips p ss)) same

    -- the partitions of one of the meanings, where the shuffle is skipped
    silent_partitions : (m : ℕ) → dealing ≡ by_hash m → skips ≡ true → IsQuiet
        → ((i : ℕ) → i < part_count work k
        → raises (shuffled_stream kind (by_hash m) i streams) ≡ false)
        ⊎ ((i : ℕ) → i < part_count work k
        → raises (shuffled_stream kind (by_hash m) i (own_or_all true i streams)) ≡ false)
    silent_partitions m deals parted (inl silent) =
        inl (λ i below. ap raises
        (ap (λ (by : Dealing). shuffled_stream kind by i streams) (sym deals)
        ∙ sym (sequential_is i below))
        ∙ silent_at (node_streams work k) i silent)
    silent_partitions m deals parted (inr silent) =
        inr (λ i below. ap raises
        (ap (λ (by : Dealing). shuffled_stream kind by i (own_or_all true i streams)) (sym deals)
        ∙ ap (λ b. shuffled_stream kind dealing i (own_or_all b i streams)) (sym parted)
        ∙ sym (local_is i below))
        ∙ silent_at (local_streams work k) i silent)

    -- where the shuffle is skipped
    skipped_same : IsQuiet → skips ≡ true → (p : ℕ) → p < part_count work k
        → shuffled_stream kind dealing p (own_or_all true p streams)
        ≡ shuffled_stream kind dealing p streams
    skipped_same quiet parted p within =
        let node = shuffle_node kind parent n in
        let hash = parted_by_hash (partitioner_of_shuffle kind n) (lies work sound parent) parted in
        let m = hash.0 in
        let deals : dealing ≡ by_hash m =
        dealt_by_hash kind n m (bounds_of_shuffle kind streams n) hash.1 in
        let at : k < length work.script.nodes = slice_get_within work.script.nodes k node is in
        let before : parent < k =
        All-head (λ q. q < k) parent [] (reads_before work.script k node sound is) in
        let there : parent < length work.script.nodes = omega arith in
        let as_many : length streams ≡ part_count work k =
        hash_count [] work sound parent m there hash.2
        ∙ sym (shuffle_count [] work sound k kind parent n m is hash.1) in
        ap (λ (by : Dealing). shuffled_stream kind by p (own_or_all true p streams)) deals
        ∙ whole_or_own kind m (part_count work k) streams
        (hash_lies work sound parent m there hash.2) as_many
        (count_is_some [] work sound k at) (silent_partitions m deals parted quiet) p within
        ∙ ap (λ (by : Dealing). shuffled_stream kind by p streams) (sym deals)

    shuffle_same : IsQuiet → IsSame k
    shuffle_same quiet =
        same_by_places (local_streams work k) (node_streams work k) (ended_stream None) counts
        (λ p within. local_is p within ∙ decided skips refl p within
        ∙ sym (sequential_is p within))
      where
        decided : (b : Bool) → skips ≡ b → (p : ℕ) → p < part_count work k
            → shuffled_stream kind dealing p (own_or_all b p streams)
            ≡ shuffled_stream kind dealing p streams
        decided true parted p within = skipped_same quiet parted p within
        decided false parted p within = refl

  meet_same : (kind : Meeting) (left right n : ℕ)
      → slice_get work.script.nodes k ≡ Some (meet_node kind left right n)
      → IsSame left → IsSame right → AreSilent (node_streams work left)
      → AreSilent (node_streams work right) → IsSame k
  meet_same kind left right n is first second quiet silent =
      let node = meet_node kind left right n in
      let wanted = hash_partitioner n in
      let lefts = node_streams work left in
      let rights = node_streams work right in
      let own = is_parted_by wanted (lies work sound left) in
      let other = is_parted_by wanted (lies work sound right) in
      let at : k < length work.script.nodes = slice_get_within work.script.nodes k node is in
      let P : ℕ → Type 0 = λ q. q < k in
      let before = reads_before work.script k node sound is in
      let one : left < length work.script.nodes =
      (let below : left < k = All-head P left (right ∷ []) before in omega arith) in
      let two : right < length work.script.nodes =
      (let below : right < k = All-head P right [] (All-tail P left (right ∷ []) before) in
      omega arith) in
      same_by_places (local_streams work k) (node_streams work k) (ended_stream None) counts
      (λ p within.
      meet_is (known_of work) work k p sound (omega arith) kind left right n is
      ∙ ap₂ (λ (ls rs : List Stream). met_stream kind n p (own_or_all own p ls)
      (own_or_all other p rs)) first second
      ∙ meet_skipped kind n p lefts rights own other
      (λ parted. hash_lies work sound left n one (lies_by wanted left n one refl parted))
      (λ parted. hash_lies work sound right n two (lies_by wanted right n two refl parted))
      quiet silent
      ∙ sym (meet_is [] work k p sound within kind left right n is))

  pub node_same : (node : NodeData) → slice_get work.script.nodes k ≡ Some node → IsQuiet
      → AllByRecursion IsSame (parents_of node)
      → AllByRecursion (λ q. AreSilent (node_streams work q)) (parents_of node) → IsSame k
  node_same (text_node name n) is quiet same silent =
      narrow_same (known_of work) [] work k (text_node name n) sound tt is counts same
  node_same (parallelize_node rows n) is quiet same silent =
      narrow_same (known_of work) [] work k (parallelize_node rows n) sound tt is counts same
  node_same (each_node kind parent e) is quiet same silent =
      narrow_same (known_of work) [] work k (each_node kind parent e) sound tt is counts same
  node_same (union_node left right) is quiet same silent =
      narrow_same (known_of work) [] work k (union_node left right) sound tt is counts same
  node_same (coalesce_node parent n) is quiet same silent =
      narrow_same (known_of work) [] work k (coalesce_node parent n) sound tt is counts same
  node_same (cache_node parent) is quiet same silent =
      narrow_same (known_of work) [] work k (cache_node parent) sound tt is counts same
  node_same (shuffle_node kind parent n) is quiet same silent =
      shuffle_same kind parent n is same.0 quiet
  node_same (meet_node kind left right n) is quiet same silent =
      meet_same kind left right n is same.0 same.1.0 silent.0 silent.1.0
