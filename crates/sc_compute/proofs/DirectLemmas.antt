-- What a partition of a node reads as it is, where all was made for the node.
use Rattle.std.proofs.Common.{◌≡◌, ◌∙◌, ℕ, ◌<◌, Bool, true, false, if◌then◌else◌, List, [], ◌∷◌, ◌++◌, Some, All, length, map, flat_map, refl, ap, sym, subst, arith}
use Rattle.std.proofs.lemmas.Bool.{eqb-true}
use Rattle.std.proofs.lemmas.List.Elements.{All-nil, All-cons, All-head, All-tail, All-append, All-weaker}
use Rattle.std.specs.List.{slice_get}
use Rattle.sc_base.specs.Lists.{at_or}
use Rattle.sc_value.specs.Keys.{KeyData}
use Rattle.sc_lineage.specs.Dependencies.{Dependency, one_to_one, range_behind, grouped, shuffled, IsNarrow, PlaceData, dependencies_by, dependencies_of, place, parents_of, places_read, reads_of, unless_parted}
use Rattle.sc_lineage.specs.Meaning.{bounds_step, known_of, meanings_by, parts_of_shuffle, parts_step}
use Rattle.sc_lineage.specs.NodeData.{NodeData, ShufflingData, reduce_by_key, group_by_key, sort_by_key, repartition, text_node, parallelize_node, each_node, union_node, coalesce_node, cache_node, shuffle_node, meet_node}
use Rattle.sc_lineage.specs.Partitioners.{PartitionerData, no_partitioner, hash_partitioner, range_partitioner, is_parted_by, partitioner_of_shuffle}
use Rattle.sc_lineage.specs.ScriptData.{WorkData, IsSoundScript, ReadsBefore, count_step}
use Rattle.sc_lineage.specs.Views.{place_data_of}
use Rattle.sc_lineage.specs.declared.dependencies.Place.{Place}
use Rattle.sc_lineage.proofs.MeaningLemmas.{part_count-step, reads_before, reads_by_counts}
use Rattle.sc_lineage.proofs.PlaceLemmas.{at_or-map_any, slice_get-at_or}
use Rattle.sc_lineage.proofs.ReadLemmas.{HoldAtParents, at_parents, hold_at_parents, hold_by, narrow_by, reads_within}
use Rattle.sc_lineage.proofs.ShuffleLemmas.{hash_count}
use Rattle.sc_compute.specs.Reading.{direct_reads, read_directly}
use Rattle.sc_compute.specs.Stages.{HoldDirectly, HoldsDirectly, local_count, node_at}

-- what holds of the places that a dependency reads holds of those that it reads as they are
directly : (counts : ℕ → ℕ) (p : ℕ) (P : PlaceData → Type 0) (d : Dependency)
    → All P (places_read counts p d) → All P (read_directly counts p d)
directly counts p P (one_to_one parent) all = all
directly counts p P (range_behind parent others) all = all
directly counts p P (grouped parent n) all = all
directly counts p P (shuffled parent by) all = All-nil P

-- what holds of the parents holds of the nodes of the places that are read
pub at_direct : (counts : ℕ → ℕ) (p : ℕ) (P : ℕ → Type 0) (ds : List Dependency)
    → HoldAtParents P ds → All (λ at. P at.node) (flat_map (read_directly counts p) ds)
at_direct counts p P [] hold = All-nil (λ at. P at.node)
at_direct counts p P (d ∷ ds) hold =
    All-append (λ at. P at.node) (read_directly counts p d) (flat_map (read_directly counts p) ds)
    (directly counts p (λ at. P at.node) d (at_parents counts P p d hold.0))
    (at_direct counts p P ds hold.1)

-- what holds at the parents that are read as they are holds of the nodes of the places
holds_of_read : (counts : ℕ → ℕ) (p : ℕ) (P : ℕ → Type 0) (d : Dependency) → HoldsDirectly P d
    → All (λ at. P at.node) (read_directly counts p d)
holds_of_read counts p P (one_to_one parent) hold =
    at_parents counts P p (one_to_one parent) hold
holds_of_read counts p P (range_behind parent others) hold =
    at_parents counts P p (range_behind parent others) hold
holds_of_read counts p P (grouped parent n) hold = at_parents counts P p (grouped parent n) hold
holds_of_read counts p P (shuffled parent by) hold = All-nil (λ at. P at.node)

pub hold_of_read : (counts : ℕ → ℕ) (p : ℕ) (P : ℕ → Type 0) (ds : List Dependency)
    → HoldDirectly P ds → All (λ at. P at.node) (flat_map (read_directly counts p) ds)
hold_of_read counts p P [] hold = All-nil (λ at. P at.node)
hold_of_read counts p P (d ∷ ds) hold =
    All-append (λ at. P at.node) (read_directly counts p d) (flat_map (read_directly counts p) ds)
    (holds_of_read counts p P d hold.0) (hold_of_read counts p P ds hold.1)

-- of a narrow node all parents are read as they are
pub narrow_parents : (P : ℕ → Type 0) (known : List PartitionerData) (node : NodeData)
    → IsNarrow node → HoldDirectly P (dependencies_by known node) → All P (parents_of node)
narrow_parents P known (text_node name n) narrow hold = All-nil P
narrow_parents P known (parallelize_node rows n) narrow hold = All-nil P
narrow_parents P known (each_node kind parent e) narrow hold =
    All-cons P parent [] hold.0 (All-nil P)
narrow_parents P known (union_node left right) narrow hold =
    All-cons P left (right ∷ []) hold.0.0 (All-cons P right [] hold.1.0.0 (All-nil P))
narrow_parents P known (coalesce_node parent n) narrow hold =
    All-cons P parent [] hold.0 (All-nil P)
narrow_parents P known (cache_node parent) narrow hold = All-cons P parent [] hold.0 (All-nil P)
narrow_parents P known (shuffle_node kind parent n) narrow hold = absurd narrow
narrow_parents P known (meet_node kind left right n) narrow hold = absurd narrow

-- a narrow node reads all as it is
narrow_directly : (counts : ℕ → ℕ) (p : ℕ) (node : NodeData) → IsNarrow node
    → flat_map (read_directly counts p) (dependencies_of node) ≡ reads_of counts node p
narrow_directly counts p (text_node name n) narrow = refl
narrow_directly counts p (parallelize_node rows n) narrow = refl
narrow_directly counts p (each_node kind parent e) narrow = refl
narrow_directly counts p (union_node left right) narrow = refl
narrow_directly counts p (coalesce_node parent n) narrow = refl
narrow_directly counts p (cache_node parent) narrow = refl
narrow_directly counts p (shuffle_node kind parent n) narrow = absurd narrow
narrow_directly counts p (meet_node kind left right n) narrow = absurd narrow

-- rows that lie as a shuffle asks lie by the hash, in as many buckets
pub lies_by_hash : (wanted lies : PartitionerData) → is_parted_by wanted lies ≡ true
    → (n : ℕ) × (wanted ≡ hash_partitioner n) × (lies ≡ hash_partitioner n)
lies_by_hash wanted no_partitioner is = cc
lies_by_hash wanted range_partitioner is = cc
lies_by_hash no_partitioner (hash_partitioner n) is = cc
lies_by_hash range_partitioner (hash_partitioner n) is = cc
lies_by_hash (hash_partitioner m) (hash_partitioner n) is =
    (n, ap hash_partitioner (eqb-true m n is), refl)

same_number : (m n : ℕ) → hash_partitioner m ≡ hash_partitioner n → m ≡ n
same_number m n is = cc

-- a shuffle by the hash has as many partitions as there are buckets
hash_parts : (kind : ShufflingData) (n m : ℕ) (bounds : List KeyData)
    → partitioner_of_shuffle kind n ≡ hash_partitioner m → parts_of_shuffle kind n bounds ≡ m
hash_parts (reduce_by_key e) n m bounds is = same_number n m is
hash_parts group_by_key n m bounds is = same_number n m is
hash_parts sort_by_key n m bounds is = cc
hash_parts repartition n m bounds is = cc

-- what a partition of a narrow node reads
narrow_reads : (known : List PartitionerData) (counts : ℕ → ℕ) (p : ℕ) (node : NodeData)
    → IsNarrow node
    → flat_map (read_directly counts p) (dependencies_by known node) ≡ reads_of counts node p
narrow_reads known counts p node narrow =
    ap (flat_map (read_directly counts p)) (narrow_by known node narrow)
    ∙ narrow_directly counts p node narrow

pub direct_narrow : (work : WorkData) (k p : ℕ) → IsNarrow (node_at work k)
    → direct_reads work k p ≡ reads_of (local_count work) (node_at work k) p
direct_narrow work k p narrow =
    narrow_reads (known_of work) (local_count work) p (node_at work k) narrow

-- what holds of all that is read holds of the places that were found
pub found_all : (P : PlaceData → Type 0) (places : List Place) (reads : List PlaceData)
    → map place_data_of places ≡ reads → All P reads → All (λ q. P (place_data_of q)) places
found_all P places reads is all = from_data places (subst (All P) (sym is) all)
  where
    from_data : (found : List Place) → All P (map place_data_of found)
        → All (λ q. P (place_data_of q)) found
    from_data [] all = All-nil (λ q. P (place_data_of q))
    from_data (q ∷ found) all =
        All-cons (λ r. P (place_data_of r)) q found
        (All-head P (place_data_of q) (map place_data_of found) all)
        (from_data found (All-tail P (place_data_of q) (map place_data_of found) all))

-- the numbers of partitions of all nodes
abbrev pub counts_of : WorkData → List ℕ
counts_of work = map length (meanings_by (known_of work) work)

pub count_found : (work : WorkData) (q : ℕ) → at_or (counts_of work) q 0 ≡ local_count work q
count_found work q = at_or-map_any length (meanings_by (known_of work) work) q []

-- A partition of a node of a work.
module _ (work : WorkData) (sound : IsSoundScript work.script) where
  abbrev lies : ℕ → PartitionerData
  lies parent = at_or (known_of work) parent no_partitioner

  -- a parent whose rows lie as a shuffle asks has as many partitions as the shuffle
  skipped : (wanted : PartitionerData) (parent count : ℕ) → parent < length work.script.nodes
      → ((m : ℕ) → wanted ≡ hash_partitioner m → count ≡ m)
      → is_parted_by wanted (lies parent) ≡ true → count ≡ local_count work parent
  skipped wanted parent count known by_hash so =
      let hash = lies_by_hash wanted (lies parent) so in
      by_hash hash.0 hash.1
      ∙ sym (hash_count (known_of work) work sound parent hash.0 known hash.2)

  -- a partition that is there
  abbrev IsIn : PlaceData → Type 0
  IsIn at = at.partition < local_count work at.node

  -- the parent of a shuffle has the partition that is read as it is
  own_in : (wanted : PartitionerData) (parent count p : ℕ) → parent < length work.script.nodes
      → ((m : ℕ) → wanted ≡ hash_partitioner m → count ≡ m) → p < count
      → All IsIn (read_directly (local_count work) p
      (unless_parted (known_of work) (shuffled parent wanted)))
  own_in wanted parent count p known by_hash within =
      decided (is_parted_by wanted (lies parent)) refl
    where
      decided : (b : Bool) → is_parted_by wanted (lies parent) ≡ b
          → All IsIn (read_directly (local_count work) p
          (if b then one_to_one parent else shuffled parent wanted))
      decided true so =
          let same = skipped wanted parent count known by_hash so in
          All-cons IsIn (place parent p) [] (omega (arith, within, same)) (All-nil IsIn)
      decided false so = All-nil IsIn

  -- a narrow node reads only partitions that are there
  narrow_in : (node : NodeData) (p : ℕ) → IsNarrow node → p < count_step (counts_of work) node
      → All IsIn (flat_map (read_directly (local_count work) p)
      (dependencies_by (known_of work) node))
  narrow_in node p narrow within =
      let all = meanings_by (known_of work) work in
      subst (All IsIn)
      (sym (narrow_reads (known_of work) (local_count work) p node narrow
      ∙ reads_by_counts all node p))
      (All-weaker (λ at. at.partition < at_or (counts_of work) at.node 0) IsIn
      (λ at so. let same = count_found work at.node in omega (arith, so, same))
      (reads_of (λ q. at_or (counts_of work) q 0) node p)
      (reads_within (counts_of work) node p within))

  module _ (k p : ℕ) (known : k < length work.script.nodes) (within : p < local_count work k) where
    abbrev node : NodeData
    node = node_at work k

    found : slice_get work.script.nodes k ≡ Some node
    found = slice_get-at_or work.script.nodes k (cache_node 0) known

    pub before : ReadsBefore k node
    before = reads_before work.script k node sound found

    pub parts : local_count work k
        ≡ parts_step (bounds_step (meanings_by (known_of work) work) node) (counts_of work) node
    parts = part_count-step (known_of work) work k node sound found

    all_in : (n : NodeData) → ReadsBefore k n
        → local_count work k
        ≡ parts_step (bounds_step (meanings_by (known_of work) work) n) (counts_of work) n
        → All IsIn (flat_map (read_directly (local_count work) p)
        (dependencies_by (known_of work) n))
    all_in (text_node name n) first is = All-nil IsIn
    all_in (parallelize_node rows n) first is = All-nil IsIn
    all_in (each_node kind parent e) first is =
        narrow_in (each_node kind parent e) p tt (omega (arith, within, is))
    all_in (union_node left right) first is =
        narrow_in (union_node left right) p tt (omega (arith, within, is))
    all_in (coalesce_node parent n) first is =
        narrow_in (coalesce_node parent n) p tt (omega (arith, within, is))
    all_in (cache_node parent) first is =
        narrow_in (cache_node parent) p tt (omega (arith, within, is))
    all_in (shuffle_node kind parent n) first is =
        let below = All-head (λ q. q < k) parent [] first in
        All-append IsIn
        (read_directly (local_count work) p
        (unless_parted (known_of work) (shuffled parent (partitioner_of_shuffle kind n)))) []
        (own_in (partitioner_of_shuffle kind n) parent (local_count work k) p
        (omega (arith, known, below))
        (λ m hash. is ∙ hash_parts kind n m
        (bounds_step (meanings_by (known_of work) work) (shuffle_node kind parent n)) hash)
        within)
        (All-nil IsIn)
    all_in (meet_node kind left right n) first is =
        let below = All-head (λ q. q < k) left (right ∷ []) first in
        let next = All-head (λ q. q < k) right [] (All-tail (λ q. q < k) left (right ∷ []) first) in
        let count : (m : ℕ) → hash_partitioner n ≡ hash_partitioner m → local_count work k ≡ m =
        λ m hash. is ∙ same_number n m hash in
        let reads : ℕ → List PlaceData = λ parent. read_directly (local_count work) p
        (unless_parted (known_of work) (shuffled parent (hash_partitioner n))) in
        All-append IsIn (reads left) (reads right ++ [])
        (own_in (hash_partitioner n) left (local_count work k) p (omega (arith, known, below))
        count within)
        (All-append IsIn (reads right) []
        (own_in (hash_partitioner n) right (local_count work k) p (omega (arith, known, next))
        count within)
        (All-nil IsIn))

    -- the places that are read are of nodes before
    pub before_direct : All (λ at. at.node < k) (direct_reads work k p)
    before_direct =
        at_direct (local_count work) p (λ q. q < k) (dependencies_by (known_of work) node)
        (hold_by (λ q. q < k) (known_of work) (dependencies_of node)
        (hold_at_parents (λ q. q < k) node before))

    -- they are there
    pub within_direct : All (λ at. at.partition < local_count work at.node) (direct_reads work k p)
    within_direct = all_in node before parts
