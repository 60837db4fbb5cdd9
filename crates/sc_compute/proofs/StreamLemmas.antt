-- The stream of a partition of a shuffle, from those that it reads as they are.
use Rattle.std.proofs.Common.{◌≡◌, ◌∙◌, ℕ, ◌<◌, ◌-◌, List, [], ◌++◌, Some, Option, Result, IfOk, length, map, take, flat_map, refl, ap, ap₂, sym, subst, arith}
use Rattle.std.proofs.lemmas.List.{map-append}
use Rattle.std.proofs.lemmas.Result.{IfOk-weaker}
use Rattle.std.specs.List.{slice_get}
use Rattle.std.specs.declared.alloc.AllocError.{AllocError}
use Rattle.sc_lineage.specs.Dependencies.{IsNarrow, dependencies_by, PlaceData}
use Rattle.sc_lineage.specs.Meaning.{bounds_of_shuffle, known_of, local_stream, local_streams}
use Rattle.sc_lineage.specs.Narrow.{narrow_stream}
use Rattle.sc_lineage.specs.NodeData.{NodeData, ShufflingData, group_by_key, shuffle_node, meet_node, cache_node}
use Rattle.sc_lineage.specs.Partitioners.{hash_partitioner, partitioner_of_shuffle}
use Rattle.sc_lineage.specs.ScriptData.{WorkData, IsSoundScript, count_step, declared_counts}
use Rattle.sc_lineage.specs.Shuffles.{Dealing, by_hash, met_stream, shuffled_stream}
use Rattle.sc_lineage.specs.declared.nodes.Meeting.{Meeting}
use Rattle.sc_lineage.specs.declared.streams.Stream.{Stream}
use Rattle.sc_lineage.proofs.ByNodesLemmas.{fold_laws}
use Rattle.sc_lineage.proofs.CountLemmas.{count_is_within}
use Rattle.sc_lineage.proofs.MeaningLemmas.{partition_is_narrow}
use Rattle.sc_lineage.proofs.PlaceLemmas.{slice_get-at_or}
use Rattle.sc_lineage.proofs.ShuffleLemmas.{meet_is, shuffle_is, streams_for}
use Rattle.sc_compute.proofs.DirectLemmas.{direct_narrow}
use Rattle.sc_compute.proofs.OwnLemmas.{OwnIs, first_own, last_own, nothing_behind, only_own, own_direct, reads_so}
use Rattle.sc_compute.proofs.SideLemmas.{deals_by_hash}
use Rattle.sc_compute.specs.Reading.{IsReadFrom, ReadsFrom, direct_reads, own_place, own_stream, read_directly}
use Rattle.sc_combine.specs.Outputs.{dealing_in}
use Rattle.sc_compute.specs.Stages.{AreSides, IsInput, local_count, node_at}
use Rattle.sc_compute.specs.declared.shuffles.ReadFrom.{ReadFrom}
use Rattle.sc_compute.specs.declared.stages.Input.{Input}
use Rattle.sc_compute.specs.declared.stages.Sides.TheVariants.{One, Two}

-- A partition of a node.
module _ (work : WorkData) (sound : IsSoundScript work.script) (k p : ℕ)
    (known : k < length work.script.nodes) (within : p < local_count work k) where
  abbrev at : PlaceData → Stream
  at place = local_stream work place.node place.partition

  abbrev node : NodeData
  node = node_at work k

  found : slice_get work.script.nodes k ≡ Some node
  found = slice_get-at_or work.script.nodes k (cache_node 0) known

  -- a shuffle has some partitions
  pub some_parts : (m : NodeData) → node ≡ m
      → 0 < count_step (take k (declared_counts work.script.nodes)) m
  some_parts m is =
      let count = (count_is_within (known_of work) work sound k known).within in
      let step = (fold_laws count_step).steps work.script.nodes k m 0 (found ∙ ap Some is) in
      omega (arith, within, count, step)

  -- a partition of a narrow node
  pub narrow_gives : (lent : List Stream) (answer : Result Stream AllocError) → IsNarrow node
      → lent ≡ map at (direct_reads work k p)
      → ((m : NodeData) → slice_get work.script.nodes k ≡ Some m
      → IfOk answer (λ s. s ≡ narrow_stream work.inputs m p lent))
      → IfOk answer (λ s. s ≡ local_stream work k p)
  narrow_gives lent answer narrow read gives =
      let made = partition_is_narrow (known_of work) work k node sound found p narrow within in
      IfOk-weaker answer (λ s. s ≡ narrow_stream work.inputs node p lent)
      (λ s. s ≡ local_stream work k p)
      (λ s so. so
      ∙ ap (narrow_stream work.inputs node p)
      (read ∙ ap (map at) (direct_narrow work k p narrow))
      ∙ sym made)
      (gives node found)

  module _ (kind : ShufflingData) (parent n : ℕ) (input : Input)
      (is : node ≡ shuffle_node kind parent n) (are : AreSides work node (One input))
      (lent : List Stream) (read : lent ≡ map at (direct_reads work k p)) where
    right : IsInput work kind (dealing_in work kind parent n) (partitioner_of_shuffle kind n)
        parent input
    right = let P : NodeData → Type 0 = λ m. AreSides work m (One input) in subst P is are

    one_read : lent ≡ own_stream work input parent p
    one_read =
        let ofs : NodeData → List PlaceData = λ m. flat_map (read_directly (local_count work) p)
        (dependencies_by (known_of work) m) in
        read
        ∙ ap (map at)
        (ap ofs is
        ∙ ap (λ ps. ps ++ []) (own_direct work p kind (dealing_in work kind parent n)
        (partitioner_of_shuffle kind n) parent input right)
        ∙ nothing_behind input parent p)

    one_own : OwnIs work parent p input (slice_get lent 0)
    one_own =
        let P : List Stream → Type 0 = λ ss. OwnIs work parent p input (slice_get ss 0) in
        subst P (sym one_read) (only_own work parent p input)

    pub shuffled_gives : (own : Option Stream) (from : ReadFrom) (answer : Result Stream AllocError)
        → own ≡ slice_get lent 0 → ReadsFrom input own from
        → ((dealing : Dealing) (streams : List Stream) → IsReadFrom kind dealing n from streams
        → IfOk answer (λ s. s ≡ shuffled_stream kind dealing p streams))
        → IfOk answer (λ s. s ≡ local_stream work k p)
    shuffled_gives own from answer first reads gives =
        let dealing = dealing_in work kind parent n in
        let streams = streams_for (known_of work) work (partitioner_of_shuffle kind n) parent p in
        let made = shuffle_is (known_of work) work k p sound within kind parent n
        (found ∙ ap Some is) in
        IfOk-weaker answer (λ s. s ≡ shuffled_stream kind dealing p streams)
        (λ s. s ≡ local_stream work k p) (λ s so. so ∙ sym made)
        (gives dealing streams
        (reads_so work kind dealing (partitioner_of_shuffle kind n) parent n p input
        (slice_get lent 0) from right one_own
        (λ m hash. deals_by_hash kind n m
        (bounds_of_shuffle kind (local_streams work parent) n) hash)
        (let P : Option Stream → Type 0 = λ o. ReadsFrom input o from in subst P first reads)))

  module _ (kind : Meeting) (left right n : ℕ) (first second : Input)
      (is : node ≡ meet_node kind left right n) (are : AreSides work node (Two first second))
      (lent : List Stream) (read : lent ≡ map at (direct_reads work k p)) where
    both : IsInput work group_by_key (by_hash n) (hash_partitioner n) left first
        × IsInput work group_by_key (by_hash n) (hash_partitioner n) right second
    both = let P : NodeData → Type 0 = λ m. AreSides work m (Two first second) in subst P is are

    two_read : lent ≡ own_stream work first left p ++ own_stream work second right p
    two_read =
        let ofs : NodeData → List PlaceData = λ m. flat_map (read_directly (local_count work) p)
        (dependencies_by (known_of work) m) in
        read
        ∙ ap (map at)
        (ap ofs is
        ∙ ap₂ (λ ps qs. ps ++ (qs ++ []))
        (own_direct work p group_by_key (by_hash n) (hash_partitioner n) left first both.0)
        (own_direct work p group_by_key (by_hash n) (hash_partitioner n) right second both.1)
        ∙ ap (λ qs. own_place first left p ++ qs) (nothing_behind second right p))
        ∙ map-append at (own_place first left p) (own_place second right p)

    left_own : OwnIs work left p first (slice_get lent 0)
    left_own =
        let P : List Stream → Type 0 = λ ss. OwnIs work left p first (slice_get ss 0) in
        subst P (sym two_read) (first_own work left right p first second)

    right_own : OwnIs work right p second (slice_get lent (length lent - 1))
    right_own =
        let P : List Stream → Type 0 = λ ss. OwnIs work right p second
        (slice_get ss (length ss - 1)) in
        subst P (sym two_read) (last_own work left right p first second)

    pub met_gives : (lowest highest : Option Stream) (from to : ReadFrom)
        (answer : Result Stream AllocError) → lowest ≡ slice_get lent 0
        → highest ≡ slice_get lent (length lent - 1) → ReadsFrom first lowest from
        → ReadsFrom second highest to
        → ((lefts rights : List Stream) → IsReadFrom group_by_key (by_hash n) n from lefts
        → IsReadFrom group_by_key (by_hash n) n to rights
        → IfOk answer (λ s. s ≡ met_stream kind n p lefts rights))
        → IfOk answer (λ s. s ≡ local_stream work k p)
    met_gives lowest highest from to answer low high reads_left reads_right gives =
        let lefts = streams_for (known_of work) work (hash_partitioner n) left p in
        let rights = streams_for (known_of work) work (hash_partitioner n) right p in
        let made = meet_is (known_of work) work k p sound within kind left right n
        (found ∙ ap Some is) in
        let P : Option Stream → Type 0 = λ o. ReadsFrom first o from in
        let Q : Option Stream → Type 0 = λ o. ReadsFrom second o to in
        IfOk-weaker answer (λ s. s ≡ met_stream kind n p lefts rights)
        (λ s. s ≡ local_stream work k p) (λ s so. so ∙ sym made)
        (gives lefts rights
        (reads_so work group_by_key (by_hash n) (hash_partitioner n) left n p first
        (slice_get lent 0) from both.0 left_own (λ m hash. refl) (subst P low reads_left))
        (reads_so work group_by_key (by_hash n) (hash_partitioner n) right n p second
        (slice_get lent (length lent - 1)) to both.1 right_own (λ m hash. refl)
        (subst Q high reads_right)))
