-- What nodes depend on: only nodes before them, and two at most; and what is marked by way of them.
use Rattle.std.proofs.Common.{◌≡◌, ◌∙◌, ℕ, zero, suc, ◌<◌, ◌≤◌, Bool, true, false, if◌then◌else◌, List, [], ◌∷◌, Some, None, Option, length, map, filter, get_or, cond, All, refl, ap, sym, subst, arith}
use Rattle.std.proofs.Math.ListN.{set}
use Rattle.std.proofs.lemmas.Bool.{false≢true}
use Rattle.std.proofs.lemmas.List.Elements.{All-nil, All-cons, All-head, All-tail, All-filter, All-map}
use Rattle.std.specs.List.{Contains, slice_get}
use Rattle.std.specs.Option.{option_map}
use Rattle.sc_lineage.specs.Dependencies.{Dependency, one_to_one, range_behind, grouped, shuffled, dependencies_by, dependencies_of, parent_of, parents_of, unless_parted}
use Rattle.sc_lineage.specs.NodeData.{NodeData, text_node, parallelize_node, each_node, union_node, coalesce_node, cache_node, shuffle_node, meet_node}
use Rattle.sc_lineage.specs.Partitioners.{PartitionerData, is_parted_by, no_partitioner, partitioners_of}
use Rattle.sc_lineage.specs.ScriptData.{ScriptData, IsSoundScript}
use Rattle.sc_lineage.proofs.MeaningLemmas.{reads_before}
use Rattle.sc_base.specs.Lists.{at_or}
use Rattle.sc_stagecut.specs.Marking.{AreMarked, is_read_followed, marked_by, read_of}
use Rattle.sc_stagecut.specs.Reaching.{dependencies_among, dependencies_at, followed_from, is_followed}
use Rattle.sc_stagecut.specs.declared.reads.Follow.{Follow}
use Rattle.sc_stagecut.specs.declared.reads.Follow.TheVariants as follows
use Rattle.sc_stagecut.specs.declared.reads.Read.{Read}
use Rattle.sc_stagecut.proofs.MarkLemmas.{marked_all, marked_all-marks}

-- a read is followed as its dependency is
followed-read : (follow : Follow) (d : Dependency)
    → is_read_followed follow (read_of d) ≡ is_followed follow d
followed-read follows.Every d = refl
followed-read follows.Narrow d = refl

-- what one side marks
marked_by-one : (follow : Follow) (d : Dependency) (ds : List Dependency) (marks : List Bool)
    → marked_all (map parent_of (filter (is_followed follow) (d ∷ ds))) marks
    ≡ marked_all (map parent_of (filter (is_followed follow) ds))
    (marked_by follow (Some (read_of d)) marks)
marked_by-one follow d ds marks =
    decided (is_followed follow d) (is_read_followed follow (read_of d)) (followed-read follow d)
  where
    decided : (b e : Bool) → e ≡ b
        → marked_all (map parent_of (cond b (d ∷ filter (is_followed follow) ds)
        (filter (is_followed follow) ds))) marks
        ≡ marked_all (map parent_of (filter (is_followed follow) ds))
        (if e then set marks (parent_of d) true else marks)
    decided true true same = refl
    decided false false same = refl
    decided true false same = absurd (false≢true same)
    decided false true same = absurd (false≢true (sym same))

-- both sides mark what is followed, where there is no third
marked_by-both : (follow : Follow) (ds : List Dependency) (marks : List Bool) → length ds ≤ 2
    → marked_all (map parent_of (filter (is_followed follow) ds)) marks
    ≡ marked_by follow (option_map read_of (slice_get ds 1))
    (marked_by follow (option_map read_of (slice_get ds 0)) marks)
marked_by-both follow [] marks few = refl
marked_by-both follow (d ∷ []) marks few = marked_by-one follow d [] marks
marked_by-both follow (d ∷ e ∷ []) marks few =
    marked_by-one follow d (e ∷ []) marks
    ∙ marked_by-one follow e [] (marked_by follow (Some (read_of d)) marks)
marked_by-both follow (d ∷ e ∷ f ∷ ds) marks few = absurd (omega arith)

-- each dependency may be followed
pub every : (ds : List Dependency) → filter (is_followed follows.Every) ds ≡ ds
every [] = refl
every (d ∷ ds) = ap (λ es. d ∷ es) (every ds)

-- a node has two dependencies at most
few_dependencies : (known : List PartitionerData) (node : NodeData)
    → length (dependencies_by known node) ≤ 2
few_dependencies known (text_node name n) = omega arith
few_dependencies known (parallelize_node rows n) = omega arith
few_dependencies known (each_node kind parent e) = omega arith
few_dependencies known (union_node left right) = omega arith
few_dependencies known (coalesce_node parent n) = omega arith
few_dependencies known (cache_node parent) = omega arith
few_dependencies known (shuffle_node kind parent n) = omega arith
few_dependencies known (meet_node kind left right n) = omega arith

pub few_at : (nodes : List NodeData) (k : ℕ) → length (dependencies_at nodes k) ≤ 2
few_at nodes k = at (slice_get nodes k)
  where
    at : (node : Option NodeData) → length (dependencies_among (partitioners_of nodes) node) ≤ 2
    at None = omega arith
    at (Some node) = few_dependencies (partitioners_of nodes) node

-- a dependency that needs no shuffle is on the same parent
same_parent : (known : List PartitionerData) (d : Dependency)
    → parent_of (unless_parted known d) ≡ parent_of d
same_parent known (one_to_one parent) = refl
same_parent known (range_behind parent others) = refl
same_parent known (grouped parent n) = refl
same_parent known (shuffled parent by) =
    decided (is_parted_by by (at_or known parent no_partitioner))
  where
    decided : (b : Bool)
        → parent_of (if b then one_to_one parent else shuffled parent by) ≡ parent
    decided true = refl
    decided false = refl

pub same_parents : (known : List PartitionerData) (ds : List Dependency)
    → map parent_of (map (unless_parted known) ds) ≡ map parent_of ds
same_parents known [] = refl
same_parents known (d ∷ ds) =
    ap (λ p. p ∷ map parent_of (map (unless_parted known) ds)) (same_parent known d)
    ∙ ap (λ ps. parent_of d ∷ ps) (same_parents known ds)

each_parent : (P : ℕ → Type 0) (ds : List Dependency) → All P (map parent_of ds)
    → All (λ d. P (parent_of d)) ds
each_parent P [] all = All-nil (λ d. P (parent_of d))
each_parent P (d ∷ ds) all =
    All-cons (λ d. P (parent_of d)) d ds (All-head P (parent_of d) (map parent_of ds) all)
    (each_parent P ds (All-tail P (parent_of d) (map parent_of ds) all))

-- The nodes of a checked script.
module _ (script : ScriptData) (sound : IsSoundScript script) where
  -- each dependency is on a node before
  pub depends_before : (k : ℕ) → All (λ d. parent_of d < k) (dependencies_at script.nodes k)
  depends_before k = at (slice_get script.nodes k) refl
    where
      at : (node : Option NodeData) → slice_get script.nodes k ≡ node
          → All (λ d. parent_of d < k) (dependencies_among (partitioners_of script.nodes) node)
      at None is = All-nil (λ d. parent_of d < k)
      at (Some node) is =
          let P : ℕ → Type 0 = λ p. p < k in
          let known = partitioners_of script.nodes in
          let all : All P (parents_of node) = reads_before script k node sound is in
          let Q : List ℕ → Type 0 = λ ps. All P ps in
          each_parent P (dependencies_by known node)
          (subst Q (sym (same_parents known (dependencies_of node))) all)

  pub followed_before : (follow : Follow) (k : ℕ)
      → All (λ p. p < k) (followed_from follow script.nodes k)
  followed_before follow k =
      All-map (λ p. p < k) parent_of (filter (is_followed follow) (dependencies_at script.nodes k))
      (All-filter (is_followed follow) (λ d. parent_of d < k) (dependencies_at script.nodes k)
      (depends_before k))

  -- only nodes that are there have dependencies
  pub followed_there : (follow : Follow) (k p : ℕ)
      → Contains (followed_from follow script.nodes k) p → k < length script.nodes
  followed_there follow k p c = there script.nodes k c
    where
      there : (nodes : List NodeData) (i : ℕ)
          → Contains (map parent_of (filter (is_followed follow)
          (dependencies_among (partitioners_of script.nodes) (slice_get nodes i)))) p
          → i < length nodes
      there [] i e = absurd (omega (arith, e.1))
      there (n ∷ nodes) zero e = omega arith
      there (n ∷ nodes) (suc i) e = let rest = there nodes i e in omega (arith, rest)

  -- what both sides of a node mark
  pub marked_parents : (follow : Follow) (k : ℕ) (marks : List Bool)
      → length marks ≡ length script.nodes
      → AreMarked (followed_from follow script.nodes k) marks
      (marked_by follow (option_map read_of (slice_get (dependencies_at script.nodes k) 1))
      (marked_by follow (option_map read_of (slice_get (dependencies_at script.nodes k) 0)) marks))
  marked_parents follow k marks same =
      let ps = followed_from follow script.nodes k in
      let P : List Bool → Type 0 = λ new. AreMarked ps marks new in
      subst P (marked_by-both follow (dependencies_at script.nodes k) marks (few_at script.nodes k))
      (marked_all-marks ps marks (within (followed_before follow k)))
    where
      within : All (λ p. p < k) (followed_from follow script.nodes k)
          → All (λ p. p < length marks) (followed_from follow script.nodes k)
      within all j d at =
          let there = followed_there follow k (get_or (followed_from follow script.nodes k) j d)
          (j, at, get_or_self (followed_from follow script.nodes k) j d at) in
          let before = all j d at in
          omega (arith, there, before, same)
        where
          get_or_self : (xs : List ℕ) (i e : ℕ) → i < length xs
              → get_or xs i (get_or xs i e) ≡ get_or xs i e
          get_or_self [] i e h = absurd (omega arith)
          get_or_self (x ∷ xs) zero e h = refl
          get_or_self (x ∷ xs) (suc i) e h = get_or_self xs i e (omega arith)

  -- the same from the reads of both sides
  pub marked_sides : (follow : Follow) (k : ℕ) (marks mid new : List Bool)
      (left right : Option Read) → length marks ≡ length script.nodes
      → left ≡ option_map read_of (slice_get (dependencies_at script.nodes k) 0)
      → right ≡ option_map read_of (slice_get (dependencies_at script.nodes k) 1)
      → mid ≡ marked_by follow left marks → new ≡ marked_by follow right mid
      → AreMarked (followed_from follow script.nodes k) marks new
  marked_sides follow k marks mid new left right same is_left is_right first second =
      let P : List Bool → Type 0 = λ ms. AreMarked (followed_from follow script.nodes k) marks ms in
      let first_is : mid ≡ marked_by follow
      (option_map read_of (slice_get (dependencies_at script.nodes k) 0)) marks =
      first ∙ ap (λ r. marked_by follow r marks) is_left in
      subst P
      (sym (second ∙ ap (λ r. marked_by follow r mid) is_right
      ∙ ap (λ (ms : List Bool). marked_by follow
      (option_map read_of (slice_get (dependencies_at script.nodes k) 1)) ms) first_is))
      (marked_parents follow k marks same)
