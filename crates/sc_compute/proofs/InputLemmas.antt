-- The nodes that a node takes in, and what was handed in for their shuffles.
use Rattle.std.proofs.Common.{◌≡◌, ◌∙◌, ℕ, zero, suc, ◌<◌, ◌≤◌, ◌⊎◌, inl, inr, Bool, true, false, if◌then◌else◌, List, [], ◌∷◌, ◌++◌, All, Option, Some, None, map, true≢false, refl, ap, sym, subst, arith}
use Rattle.std.proofs.lemmas.List.Elements.{All-append, All-cons, All-contains, All-head, All-nil, All-tail}
use Rattle.std.specs.HashMap.{get}
use Rattle.std.specs.List.{Contains, flat_map, slice_get}
use Rattle.std.specs.Option.{is_some}
use Rattle.sc_lineage.specs.Dependencies.{Dependency, dependencies_by, dependencies_of, grouped, one_to_one, parent_of, parents_of, range_behind, shuffled, unless_parted}
use Rattle.sc_lineage.specs.Meaning.{known_of}
use Rattle.sc_lineage.specs.NodeData.{NodeData, text_node, parallelize_node, each_node, union_node, coalesce_node, cache_node, shuffle_node, meet_node}
use Rattle.sc_lineage.specs.Partitioners.{PartitionerData, hash_partitioner, partitioner_of_shuffle}
use Rattle.sc_lineage.specs.ScriptData.{IsSoundScript, WorkData}
use Rattle.sc_lineage.proofs.MeaningLemmas.{reads_before}
use Rattle.sc_compute.specs.Inputs.{Grows, HasInputs, HasSides, Leads, Makes, TakesIn, direct_parent, direct_parents, direct_parents_of}
use Rattle.sc_compute.specs.Keeping.{same_place}
use Rattle.sc_compute.specs.Stages.{GoesThrough, HasMade, handed_in, left_parent, lies_so, made_in, node_at, unless_handed}
use Rattle.sc_compute.specs.declared.stages.Sides.{Sides}
use Rattle.sc_compute.specs.declared.stages.ShuffleInputs.{ShuffleInputs}
use Rattle.sc_compute.proofs.LeftLemmas.{Handed}
use Rattle.sc_compute.proofs.StageLemmas.{not_there}

-- the first of a list is in it, and so is the second
first_in : (a b : ℕ) (xs : List ℕ) → a ≡ b → Contains (a ∷ xs) b
first_in a b xs same = let P : ℕ → Type 0 = λ x. Contains (a ∷ xs) x in
    subst P same (0, omega arith, refl)

second_in : (c a b : ℕ) (xs : List ℕ) → a ≡ b → Contains (c ∷ a ∷ xs) b
second_in c a b xs same = let P : ℕ → Type 0 = λ x. Contains (c ∷ a ∷ xs) x in
    subst P same (1, omega arith, refl)

some_number : (a b : ℕ) → Some a ≡ Some b → a ≡ b
some_number a b is = cc

-- a node takes itself in, and what is taken in by a parent that it reads as it is
pub takes_itself : (work : WorkData) (k : ℕ) → TakesIn work k k
takes_itself work k = ([], refl)

pub takes_behind : (work : WorkData) (k parent to : ℕ) → Contains (direct_parents work k) parent
    → TakesIn work parent to → TakesIn work k to
takes_behind work k parent to reads takes = (parent ∷ takes.0, (reads, takes.1))

-- what a node has, such a parent has
pub inputs_of_parent : (work : WorkData) (inputs : ShuffleInputs) (k parent : ℕ)
    → Contains (direct_parents work k) parent → HasInputs work inputs k
    → HasInputs work inputs parent
inputs_of_parent work inputs k parent reads has =
    λ j takes. has j (takes_behind work k parent j reads takes)

-- and it stays where what was handed in does
pub inputs_stay : (work : WorkData) (before after : ShuffleInputs) (k : ℕ)
    → after.handed ≡ before.handed → HasInputs work before k → HasInputs work after k
inputs_stay work before after k same has =
    λ j takes side through.
    subst (λ h. is_some (get same_place h (j, side)) ≡ true) (sym same) (has j takes side through)

-- one of two cases that isn't the one
true_else : (b : Bool) → (b ≡ false → ⊥) → b ≡ true
true_else true never = refl
true_else false never = absurd (never refl)

-- a side for which nothing was handed in doesn't go through
pub not_through : (work : WorkData) (inputs : ShuffleInputs) (k side : ℕ) (node : NodeData)
    → node_at work k ≡ node → HasSides work inputs k → handed_in inputs k side ≡ None
    → GoesThrough work node side → ⊥
not_through work inputs k side node is has none through =
    let P : NodeData → Type 0 = λ n. GoesThrough work n side in
    not_there (handed_in inputs k side) (has side (subst P (sym is) through)) none

-- so the rows of its parent lie already as it asks
pub lies_unhanded : (work : WorkData) (inputs : ShuffleInputs) (k side : ℕ) (node : NodeData)
    (wanted : PartitionerData) (parent : ℕ) → node_at work k ≡ node → HasSides work inputs k
    → (lies_so work wanted parent ≡ false → GoesThrough work node side)
    → handed_in inputs k side ≡ None → lies_so work wanted parent ≡ true
lies_unhanded work inputs k side node wanted parent is has through none =
    true_else (lies_so work wanted parent)
    (λ never. not_through work inputs k side node is has none (through never))

-- a parent of a side that doesn't go through is read as it is
module _ (work : WorkData) where
  abbrev Reads : NodeData → ℕ → Type 0
  Reads node parent =
      Contains (flat_map direct_parent (dependencies_by (known_of work) node)) parent

  abbrev of_side : PartitionerData → ℕ → List ℕ
  of_side wanted parent = direct_parent (unless_parted (known_of work) (shuffled parent wanted))

  lying : (wanted : PartitionerData) (parent : ℕ) → lies_so work wanted parent ≡ true
      → of_side wanted parent ≡ parent ∷ []
  lying wanted parent so =
      ap (λ (b : Bool). direct_parent (if b then one_to_one parent else shuffled parent wanted)) so

  parent_read : (node : NodeData) (side parent : ℕ) → slice_get (parents_of node) side ≡ Some parent
      → (GoesThrough work node side → ⊥) → Reads node parent
  parent_read (text_node name n) side parent is never = cc
  parent_read (parallelize_node rows n) side parent is never = cc
  parent_read (each_node kind q e) zero parent is never =
      first_in q parent [] (some_number q parent is)
  parent_read (each_node kind q e) (suc side) parent is never = cc
  parent_read (union_node left right) zero parent is never =
      first_in left parent (right ∷ []) (some_number left parent is)
  parent_read (union_node left right) (suc zero) parent is never =
      second_in left right parent [] (some_number right parent is)
  parent_read (union_node left right) (suc (suc side)) parent is never = cc
  parent_read (coalesce_node q n) zero parent is never =
      first_in q parent [] (some_number q parent is)
  parent_read (coalesce_node q n) (suc side) parent is never = cc
  parent_read (cache_node q) zero parent is never = first_in q parent [] (some_number q parent is)
  parent_read (cache_node q) (suc side) parent is never = cc
  parent_read (shuffle_node kind q n) zero parent is never =
      let wanted = partitioner_of_shuffle kind n in
      let so = true_else (lies_so work wanted q) never in
      let P : List ℕ → Type 0 = λ ps. Contains (ps ++ []) parent in
      subst P (sym (lying wanted q so)) (first_in q parent [] (some_number q parent is))
  parent_read (shuffle_node kind q n) (suc side) parent is never = cc
  parent_read (meet_node kind left right n) zero parent is never =
      let wanted = hash_partitioner n in
      let so = true_else (lies_so work wanted left) never in
      let P : List ℕ → Type 0 = λ ps. Contains (ps ++ (of_side wanted right ++ [])) parent in
      subst P (sym (lying wanted left so))
      (first_in left parent (of_side wanted right ++ []) (some_number left parent is))
  parent_read (meet_node kind left right n) (suc zero) parent is never =
      let wanted = hash_partitioner n in
      let so = true_else (lies_so work wanted right) never in
      let P : List ℕ → Type 0 = λ ps. Contains (of_side wanted left ++ (ps ++ [])) parent in
      subst P (sym (lying wanted right so))
      (behind (of_side wanted left) (first_in right parent [] (some_number right parent is)))
    where
      behind : (xs : List ℕ) → Contains (right ∷ []) parent → Contains (xs ++ right ∷ []) parent
      behind [] c = c
      behind (x ∷ xs) c =
          let rest = behind xs c in (suc rest.0, omega (arith, rest.1), rest.2)
  parent_read (meet_node kind left right n) (suc (suc side)) parent is never = cc

-- so a parent that is left to be made is read as it is
pub left_read : (work : WorkData) (inputs : ShuffleInputs) (k side : ℕ) (node : NodeData)
    (left : Option ℕ) (parent : ℕ) → slice_get work.script.nodes k ≡ Some node
    → node_at work k ≡ node → HasSides work inputs k → left ≡ left_parent inputs k node side
    → left ≡ Some parent → Contains (direct_parents work k) parent
left_read work inputs k side node left parent found is has of_side some =
    let P : Option NodeData → Type 0 = λ o. Contains (direct_parents_of work o) parent in
    subst P (sym found) (by (handed_in inputs k side) refl (sym of_side ∙ some))
  where
    by : (o : Handed) → handed_in inputs k side ≡ o
        → unless_handed o (slice_get (parents_of node) side) ≡ Some parent
        → Reads work node parent
    by None none there =
        parent_read work node side parent there (not_through work inputs k side node is has none)
    by (Some outputs) handed there = let e : None ≡ Some parent = there in absurd (cc)

-- what was made is there where it is the same
pub still_made : (before after : ShuffleInputs) (k : ℕ) → made_in after k ≡ made_in before k
    → HasMade before k → HasMade after k
still_made before after k same made = subst (λ o. is_some o ≡ true) (sym same) made

-- nothing was made where there is nothing
pub none_made : (o : Option Sides) → is_some o ≡ false → o ≡ None
none_made None is = refl
none_made (Some sides) is = absurd (true≢false is)

-- ---- what is taken in lies before

module _ (work : WorkData) (sound : IsSoundScript work.script) where
  before_by : (k : ℕ) (ds : List Dependency) → All (λ q. q < k) (map parent_of ds)
      → All (λ q. q < k) (flat_map direct_parent (map (unless_parted (known_of work)) ds))
  before_by k [] all = All-nil (λ q. q < k)
  before_by k (d ∷ ds) all =
      All-append (λ q. q < k) (direct_parent (unless_parted (known_of work) d))
      (flat_map direct_parent (map (unless_parted (known_of work)) ds))
      (one d (All-head (λ q. q < k) (parent_of d) (map parent_of ds) all))
      (before_by k ds (All-tail (λ q. q < k) (parent_of d) (map parent_of ds) all))
    where
      alone : (q : ℕ) → q < k → All (λ q. q < k) (q ∷ [])
      alone q before = All-cons (λ q. q < k) q [] before (All-nil (λ q. q < k))

      lying : (b : Bool) (q : ℕ) (by : PartitionerData) → q < k
          → All (λ q. q < k) (direct_parent (if b then one_to_one q else shuffled q by))
      lying true q by before = alone q before
      lying false q by before = All-nil (λ q. q < k)

      one : (d : Dependency) → parent_of d < k
          → All (λ q. q < k) (direct_parent (unless_parted (known_of work) d))
      one (one_to_one q) before = alone q before
      one (range_behind q others) before = alone q before
      one (grouped q n) before = alone q before
      one (shuffled q by) before = lying (lies_so work by q) q by before

  pub direct_before : (k : ℕ) → All (λ q. q < k) (direct_parents work k)
  direct_before k = at (slice_get work.script.nodes k) refl
    where
      at : (o : Option NodeData) → slice_get work.script.nodes k ≡ o
          → All (λ q. q < k) (direct_parents_of work o)
      at None found = All-nil (λ q. q < k)
      at (Some node) found =
          before_by k (dependencies_of node) (reads_before work.script k node sound found)

  pub taken_before : (from to : ℕ) → TakesIn work from to → to ≤ from
  taken_before from to takes = by takes.0 from takes.1
    where
      by : (path : List ℕ) (k : ℕ) → Leads work k path to → to ≤ k
      by [] k same = omega (arith, same)
      by (via ∷ path) k leads =
          let below = by path via leads.1 in
          let before = All-contains (λ q. q < k) (direct_parents work k) via (direct_before k)
          leads.0 in
          omega (arith, below, before)

  -- for a node nothing is made while a node before it is prepared
  pub unmade_still : (k parent : ℕ) (before after : ShuffleInputs) → parent < k
      → Grows work parent before after → made_in before k ≡ None → made_in after k ≡ None
  unmade_still k parent before after below grows none = at (made_in after k) refl
    where
      by : HasMade before k ⊎ TakesIn work parent k → made_in after k ≡ None
      by (inl made) = absurd (not_there (made_in before k) made none)
      by (inr takes) =
          let reach = taken_before parent k takes in absurd (omega (arith, below, reach))

      at : (o : Option Sides) → made_in after k ≡ o → made_in after k ≡ None
      at None is = is
      at (Some sides) is = by (grows.only k (ap is_some is))

-- What was made grows.
module _ (work : WorkData) where
  -- nothing is made
  pub grows_none : (node : ℕ) (inputs : ShuffleInputs) → Grows work node inputs inputs
  grows_none node inputs = record {
    kept = λ k made. refl;
    only = λ k made. inl made;
    handed = refl;
    told = refl;
  }

  -- more is made for a parent that is read as it is
  pub grows_parent : (node parent : ℕ) (before after : ShuffleInputs)
      → Contains (direct_parents work node) parent → Grows work parent before after
      → Grows work node before after
  grows_parent node parent before after reads grows = record {
    kept = grows.kept;
    only = λ k made. by k (grows.only k made);
    handed = grows.handed;
    told = grows.told;
  }
    where
      by : (k : ℕ) → HasMade before k ⊎ TakesIn work parent k
          → HasMade before k ⊎ TakesIn work node k
      by k (inl made) = inl made
      by k (inr takes) = inr (takes_behind work node parent k reads takes)

  -- and more behind that
  pub grows_on : (node : ℕ) (first second third : ShuffleInputs) → Grows work node first second
      → Grows work node second third → Grows work node first third
  grows_on node first second third low high = record {
    kept = λ k made.
        high.kept k (still_made first second k (low.kept k made) made) ∙ low.kept k made;
    only = λ k made. by k (high.only k made);
    handed = high.handed ∙ low.handed;
    told = high.told ∙ low.told;
  }
    where
      by : (k : ℕ) → HasMade second k ⊎ TakesIn work node k
          → HasMade first k ⊎ TakesIn work node k
      by k (inl made) = low.only k made
      by k (inr takes) = inr takes

  -- what the node itself needs is made
  pub grows_last : (node : ℕ) (before after : ShuffleInputs) → Makes node before after
      → Grows work node before after
  grows_last node before after makes = record {
    kept = makes.kept;
    only = λ k made. by k (makes.only k made);
    handed = makes.handed;
    told = makes.told;
  }
    where
      by : (k : ℕ) → HasMade before k ⊎ (node ≡ k) → HasMade before k ⊎ TakesIn work node k
      by k (inl made) = inl made
      by k (inr same) = inr (let P : ℕ → Type 0 = λ j. TakesIn work node j in
          subst P same (takes_itself work node))
