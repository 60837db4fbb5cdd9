-- What a partition reads: it depends on the counts of the parents alone, and only partitions that
-- are there are read.
use Rattle.std.proofs.Common.{◌≡◌, ◌∙◌, ℕ, suc, ◌+◌, ◌-◌, ◌<◌, ◌≤◌, min, Bool, true, false, ◌&&◌, nat_le, nat_lt, if◌then◌else◌, List, [], ◌∷◌, ◌++◌, map, sum, flat_map, All, refl, ap, ap₂, sym, arith, tests}
use Rattle.std.proofs.lemmas.List.{map-append}
use Rattle.std.proofs.lemmas.List.Elements.{All-nil, All-cons, All-head, All-tail, All-append, All-map}
use Rattle.std.proofs.Math.Nat.{div-le_of_le-mul}
use native.Mathlib.Nat.{mul-le-mul_right}
use Rattle.sc_base.specs.Lists.{at_or, numbers_from}
use Rattle.sc_input.specs.Slices.{slice_start}
use Rattle.sc_lineage.specs.NodeData.{NodeData, text_node, parallelize_node, each_node, union_node, coalesce_node, cache_node, shuffle_node, meet_node}
use Rattle.sc_lineage.specs.Dependencies.{Dependency, one_to_one, range_behind, grouped, shuffled, IsNarrow, dependencies_of, dependencies_by, unless_parted, parents_of, PlaceData, place, place_behind, places_from, places_read, reads_by, reads_of}
use Rattle.sc_lineage.specs.Partitioners.{PartitionerData, no_partitioner, is_parted_by}
use Rattle.sc_lineage.specs.ScriptData.{count_step}
use Rattle.sc_lineage.specs.Views.{place_data_of}
use Rattle.sc_lineage.specs.declared.dependencies.Place.{Place}
use Rattle.sc_lineage.proofs.PlaceLemmas.{All-numbers_from, numbers_from-more}

-- what holds of each node that a dependency names
abbrev pub HoldsAtParents : (ℕ → Type 0) → Dependency → Type 0
HoldsAtParents P (one_to_one parent) = P parent
HoldsAtParents P (range_behind parent others) = P parent × All P others
HoldsAtParents P (grouped parent n) = P parent
HoldsAtParents P (shuffled parent by) = P parent

-- what holds of each node that some dependencies name
abbrev pub HoldAtParents : (ℕ → Type 0) → List Dependency → Type 0
HoldAtParents P [] = Unit {0}
HoldAtParents P (d ∷ ds) = HoldsAtParents P d × HoldAtParents P ds

-- a node's dependencies name no other nodes than its parents
pub hold_at_parents : (P : ℕ → Type 0) (node : NodeData) → All P (parents_of node)
    → HoldAtParents P (dependencies_of node)
hold_at_parents P (text_node name n) all = tt
hold_at_parents P (parallelize_node rows n) all = tt
hold_at_parents P (each_node kind parent e) all = (All-head P parent [] all, tt)
hold_at_parents P (union_node left right) all =
    let first : P left = All-head P left (right ∷ []) all in
    let second : P right = All-head P right [] (All-tail P left (right ∷ []) all) in
    (((first, All-nil P)), ((second, All-cons P left [] first (All-nil P)), tt))
hold_at_parents P (coalesce_node parent n) all = (All-head P parent [] all, tt)
hold_at_parents P (cache_node parent) all = (All-head P parent [] all, tt)
hold_at_parents P (shuffle_node kind parent n) all = (All-head P parent [] all, tt)
hold_at_parents P (meet_node kind left right n) all =
    let first : P left = All-head P left (right ∷ []) all in
    let second : P right = All-head P right [] (All-tail P left (right ∷ []) all) in
    (first, (second, tt))

-- a dependency that needs no shuffle is on the same parent
holds_by : (P : ℕ → Type 0) (known : List PartitionerData) (d : Dependency) → HoldsAtParents P d
    → HoldsAtParents P (unless_parted known d)
holds_by P known (one_to_one parent) holds = holds
holds_by P known (range_behind parent others) holds = holds
holds_by P known (grouped parent n) holds = holds
holds_by P known (shuffled parent by) holds =
    decided (is_parted_by by (at_or known parent no_partitioner))
  where
    decided : (b : Bool)
        → HoldsAtParents P (if b then one_to_one parent else shuffled parent by)
    decided true = holds
    decided false = holds

pub hold_by : (P : ℕ → Type 0) (known : List PartitionerData) (ds : List Dependency)
    → HoldAtParents P ds → HoldAtParents P (map (unless_parted known) ds)
hold_by P known [] hold = tt
hold_by P known (d ∷ ds) hold = (holds_by P known d hold.0, hold_by P known ds hold.1)

-- of a narrow node nothing is skipped
pub narrow_by : (known : List PartitionerData) (node : NodeData) → IsNarrow node
    → dependencies_by known node ≡ dependencies_of node
narrow_by known (text_node name n) narrow = refl
narrow_by known (parallelize_node rows n) narrow = refl
narrow_by known (each_node kind parent e) narrow = refl
narrow_by known (union_node left right) narrow = refl
narrow_by known (coalesce_node parent n) narrow = refl
narrow_by known (cache_node parent) narrow = refl
narrow_by known (shuffle_node kind parent n) narrow = absurd narrow
narrow_by known (meet_node kind left right n) narrow = absurd narrow

-- two numbers of partitions for each node
module _ (counts others : ℕ → ℕ) where
  same_counts : (nodes : List ℕ) → All (λ q. counts q ≡ others q) nodes
      → map counts nodes ≡ map others nodes
  same_counts [] all = refl
  same_counts (q ∷ nodes) all =
      ap₂ (λ n ns. n ∷ ns) (All-head (λ r. counts r ≡ others r) q nodes all)
      (same_counts nodes (All-tail (λ r. counts r ≡ others r) q nodes all))

  same_places : (p : ℕ) (d : Dependency) → HoldsAtParents (λ q. counts q ≡ others q) d
      → places_read counts p d ≡ places_read others p d
  same_places p (one_to_one parent) same = refl
  same_places p (range_behind parent before) same =
      ap₂ (λ start count. place_behind parent start count p)
      (ap sum (same_counts before same.1)) same.0
  same_places p (grouped parent n) same =
      ap (λ count. places_from parent (slice_start count (min n count) p)
      (slice_start count (min n count) (p + 1))) same
  same_places p (shuffled parent by) same = ap (places_from parent 0) same

  same_reads : (p : ℕ) (ds : List Dependency) → HoldAtParents (λ q. counts q ≡ others q) ds
      → map (places_read counts p) ds ≡ map (places_read others p) ds
  same_reads p [] same = refl
  same_reads p (d ∷ ds) same =
      ap₂ (λ xs xss. xs ∷ xss) (same_places p d same.0) (same_reads p ds same.1)

  -- what a partition reads depends on the counts at the parents alone
  pub reads_by_parents : (known : List PartitionerData) (node : NodeData) (p : ℕ)
      → All (λ q. counts q ≡ others q) (parents_of node)
      → reads_by known counts node p ≡ reads_by known others node p
  reads_by_parents known node p same =
      same_reads p (dependencies_by known node)
      (hold_by (λ q. counts q ≡ others q) known (dependencies_of node)
      (hold_at_parents (λ q. counts q ≡ others q) node same))

  same_runs : (p : ℕ) (ds : List Dependency) → HoldAtParents (λ q. counts q ≡ others q) ds
      → flat_map (places_read counts p) ds ≡ flat_map (places_read others p) ds
  same_runs p [] same = refl
  same_runs p (d ∷ ds) same =
      ap₂ (λ xs ys. xs ++ ys) (same_places p d same.0) (same_runs p ds same.1)

  pub reads_of-parents : (node : NodeData) (p : ℕ)
      → All (λ q. counts q ≡ others q) (parents_of node)
      → reads_of counts node p ≡ reads_of others node p
  reads_of-parents node p same =
      same_runs p (dependencies_of node)
      (hold_at_parents (λ q. counts q ≡ others q) node same)

-- a number of partitions for each node
module _ (counts : ℕ → ℕ) where
  -- what holds of a dependency's parent holds of the node of each place that is read by it
  behind_at : (P : PlaceData → Type 0) (parent start count p : ℕ)
      → (start ≤ p → p < start + count → P (place parent (p - start)))
      → All P (place_behind parent start count p)
  behind_at P parent start count p each =
      decided (nat_le start p) (nat_lt p (start + count)) refl refl
    where
      decided : (b c : Bool) → nat_le start p ≡ b → nat_lt p (start + count) ≡ c
          → All P (if b && c then place parent (p - start) ∷ [] else [])
      decided true true is_from is_to =
          All-cons P (place parent (p - start)) []
          (each (search (tests, is_from)) (search (tests, is_to))) (All-nil P)
      decided true false is_from is_to = All-nil P
      decided false c is_from is_to = All-nil P

  from_at : (P : PlaceData → Type 0) (parent from to : ℕ)
      → ((i : ℕ) → from ≤ i → i < to → P (place parent i)) → All P (places_from parent from to)
  from_at P parent from to each =
      All-map P (place parent) (numbers_from from (to - from))
      (All-numbers_from (λ i. P (place parent i)) from (to - from)
      (λ i first last. each i (omega arith) (omega arith)))

  pub at_parents : (P : ℕ → Type 0) (p : ℕ) (d : Dependency) → HoldsAtParents P d
      → All (λ at. P at.node) (places_read counts p d)
  at_parents P p (one_to_one parent) holds =
      All-cons (λ at. P at.node) (place parent p) [] holds (All-nil (λ at. P at.node))
  at_parents P p (range_behind parent before) holds =
      behind_at (λ at. P at.node) parent (sum (map counts before)) (counts parent) p
      (λ from to. holds.0)
  at_parents P p (grouped parent n) holds =
      from_at (λ at. P at.node) parent (slice_start (counts parent) (min n (counts parent)) p)
      (slice_start (counts parent) (min n (counts parent)) (p + 1)) (λ i from to. holds)
  at_parents P p (shuffled parent by) holds =
      from_at (λ at. P at.node) parent 0 (counts parent) (λ i from to. holds)

  all_at_parents : (P : ℕ → Type 0) (p : ℕ) (ds : List Dependency) → HoldAtParents P ds
      → All (λ at. P at.node) (flat_map (places_read counts p) ds)
  all_at_parents P p [] holds = All-nil (λ at. P at.node)
  all_at_parents P p (d ∷ ds) holds =
      All-append (λ at. P at.node) (places_read counts p d) (flat_map (places_read counts p) ds)
      (at_parents P p d holds.0) (all_at_parents P p ds holds.1)

  -- only partitions of parents are read
  pub reads_at_parents : (P : ℕ → Type 0) (node : NodeData) (p : ℕ) → All P (parents_of node)
      → All (λ at. P at.node) (reads_of counts node p)
  reads_at_parents P node p holds =
      all_at_parents P p (dependencies_of node) (hold_at_parents P node holds)

  sides_at_parents : (P : ℕ → Type 0) (p : ℕ) (ds : List Dependency) → HoldAtParents P ds
      → All (All (λ at. P at.node)) (map (places_read counts p) ds)
  sides_at_parents P p [] holds = All-nil (All (λ at. P at.node))
  sides_at_parents P p (d ∷ ds) holds =
      All-cons (All (λ at. P at.node)) (places_read counts p d) (map (places_read counts p) ds)
      (at_parents P p d holds.0) (sides_at_parents P p ds holds.1)

  pub reads_by_at_parents : (P : ℕ → Type 0) (known : List PartitionerData) (node : NodeData)
      (p : ℕ) → All P (parents_of node)
      → All (All (λ at. P at.node)) (reads_by known counts node p)
  reads_by_at_parents P known node p holds =
      sides_at_parents P p (dependencies_by known node)
      (hold_by P known (dependencies_of node) (hold_at_parents P node holds))

  -- a partition of this number reads only partitions that are there, by a dependency
  abbrev HasPartition : ℕ → Dependency → Type 0
  HasPartition p (one_to_one parent) = p < counts parent
  HasPartition p (range_behind parent before) = Unit {0}
  HasPartition p (grouped parent n) = p < min n (counts parent)
  HasPartition p (shuffled parent by) = Unit {0}

  -- the same for some dependencies
  abbrev HavePartition : ℕ → List Dependency → Type 0
  HavePartition p [] = Unit {0}
  HavePartition p (d ∷ ds) = HasPartition p d × HavePartition p ds

  IsThere : PlaceData → Type 0
  IsThere at = at.partition < counts at.node

  -- a run of partitions ends where they end at the latest
  run_end : (count n p : ℕ) → p < n → slice_start count n (p + 1) ≤ count
  run_end count n p within =
      div-le_of_le-mul n (mul-le-mul_right count (let le : p + 1 ≤ n = omega arith in le))

  there : (p : ℕ) (d : Dependency) → HasPartition p d → All IsThere (places_read counts p d)
  unfolding IsThere
  there p (one_to_one parent) has = All-cons IsThere (place parent p) [] has (All-nil IsThere)
  there p (range_behind parent before) has =
      behind_at IsThere parent (sum (map counts before)) (counts parent) p (λ from to. omega arith)
  there p (grouped parent n) has =
      let ends = run_end (counts parent) (min n (counts parent)) p has in
      from_at IsThere parent (slice_start (counts parent) (min n (counts parent)) p)
      (slice_start (counts parent) (min n (counts parent)) (p + 1))
      (λ i from to. omega (arith, ends))
  there p (shuffled parent by) has =
      from_at IsThere parent 0 (counts parent) (λ i from to. omega arith)

  all_there : (p : ℕ) (ds : List Dependency) → HavePartition p ds
      → All IsThere (flat_map (places_read counts p) ds)
  all_there p [] have = All-nil IsThere
  all_there p (d ∷ ds) have =
      All-append IsThere (places_read counts p d) (flat_map (places_read counts p) ds)
      (there p d have.0) (all_there p ds have.1)

-- the number of partitions of a node, from some that were counted
abbrev counted : List ℕ → ℕ → ℕ
counted before q = at_or before q 0

have_partition : (before : List ℕ) (node : NodeData) (p : ℕ) → p < count_step before node
    → HavePartition (counted before) p (dependencies_of node)
have_partition before (text_node name n) p within = tt
have_partition before (parallelize_node rows n) p within = tt
have_partition before (each_node kind parent e) p within = (within, tt)
have_partition before (union_node left right) p within = (tt, (tt, tt))
have_partition before (coalesce_node parent n) p within = (within, tt)
have_partition before (cache_node parent) p within = (within, tt)
have_partition before (shuffle_node kind parent n) p within = (tt, tt)
have_partition before (meet_node kind left right n) p within = (tt, (tt, tt))

-- a partition that is there reads only partitions that are there
pub reads_within : (before : List ℕ) (node : NodeData) (p : ℕ) → p < count_step before node
    → All (λ at. at.partition < at_or before at.node 0)
    (reads_of (λ q. at_or before q 0) node p)
unfolding IsThere
reads_within before node p within =
    all_there (counted before) p (dependencies_of node) (have_partition before node p within)

-- the number of partitions of a node depends on the counts of the parents alone
pub counts_by_parents : (before others : List ℕ) (node : NodeData)
    → All (λ q. at_or before q 0 ≡ at_or others q 0) (parents_of node)
    → count_step before node ≡ count_step others node
counts_by_parents before others (text_node name n) same = refl
counts_by_parents before others (parallelize_node rows n) same = refl
counts_by_parents before others (each_node kind parent e) same =
    All-head (λ q. at_or before q 0 ≡ at_or others q 0) parent [] same
counts_by_parents before others (union_node left right) same =
    let P : ℕ → Type 0 = λ q. at_or before q 0 ≡ at_or others q 0 in
    ap₂ (λ m n. m + n) (All-head P left (right ∷ []) same)
    (All-head P right [] (All-tail P left (right ∷ []) same))
counts_by_parents before others (coalesce_node parent n) same =
    ap (min n) (All-head (λ q. at_or before q 0 ≡ at_or others q 0) parent [] same)
counts_by_parents before others (cache_node parent) same =
    All-head (λ q. at_or before q 0 ≡ at_or others q 0) parent [] same
counts_by_parents before others (shuffle_node kind parent n) same = refl
counts_by_parents before others (meet_node kind left right n) same = refl

-- one partition more is read
pub places_from-more : (places more : List Place) (at : Place) (node from i : ℕ) → from ≤ i
    → map place_data_of places ≡ places_from node from i → more ≡ places ++ at ∷ []
    → place_data_of at ≡ place node i → map place_data_of more ≡ places_from node from (i + 1)
places_from-more places more at node from i behind so_far are is =
    let count : suc (i - from) ≡ (i + 1) - from = omega arith in
    let number : from + (i - from) ≡ i = omega arith in
    let numbers = numbers_from from (i - from) in
    ap (map place_data_of) are
    ∙ map-append place_data_of places (at ∷ [])
    ∙ ap₂ (λ ps q. ps ++ q ∷ []) so_far is
    ∙ sym (map-append (place node) numbers (i ∷ []))
    ∙ ap (λ n. map (place node) (numbers ++ n ∷ [])) (sym number)
    ∙ ap (map (place node)) (sym (numbers_from-more from (i - from)))
    ∙ ap (λ n. map (place node) (numbers_from from n)) count
