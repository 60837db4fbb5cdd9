-- The parents of a node that are to be made before it, where something may be handed in.
use Rattle.std.proofs.Common.{◌≡◌, ◌∙◌, ℕ, zero, suc, Bool, true, false, if◌then◌else◌, List, [], ◌∷◌, ◌++◌, Option, Some, None, All, Vec, refl, ap, ap₂, sym, subst}
use Rattle.std.proofs.lemmas.List.Elements.{All-nil, All-cons, All-head, All-tail}
use Rattle.std.specs.List.{slice_get}
use Rattle.std.specs.HashMap.{get}
use Rattle.std.specs.Option.{IfSome, option_to_list}
use Rattle.std.specs.declared.alloc.Global.{Global}
use Rattle.sc_value.specs.Datum.{Datum}
use Rattle.sc_lineage.specs.Dependencies.{IsNarrow, dependencies_by, one_to_one, parents_of, shuffled, unless_parted}
use Rattle.sc_lineage.specs.Meaning.{known_of}
use Rattle.sc_lineage.specs.NodeData.{NodeData, text_node, parallelize_node, each_node, union_node, coalesce_node, cache_node, shuffle_node, meet_node}
use Rattle.sc_lineage.specs.Partitioners.{PartitionerData, hash_partitioner, partitioner_of_shuffle}
use Rattle.sc_lineage.specs.ScriptData.{WorkData}
use Rattle.sc_compute.specs.Keeping.{same_place}
use Rattle.sc_compute.specs.Stages.{AreOutputs, AreRight, AtDirectParents, GoesThrough, HasMade, HoldDirectly, HoldsDirectly, handed_in, left_parent, lies_so, node_at, parents_left, unless_handed}
use Rattle.sc_compute.specs.declared.stages.ShuffleInputs.{ShuffleInputs}
use Rattle.sc_compute.proofs.DirectLemmas.{narrow_parents}
use Rattle.sc_compute.proofs.StageLemmas.{holds_first, holds_second}

-- what holds of all holds of one
at_place : (P : ℕ → Type 0) (xs : List ℕ) (i q : ℕ) → All P xs → slice_get xs i ≡ Some q → P q
at_place P [] i q all is = cc
at_place P (x ∷ xs) zero q all is =
    let same : x ≡ q = cc in subst P same (All-head P x xs all)
at_place P (x ∷ xs) (suc i) q all is = at_place P xs i q (All-tail P x xs all) is

abbrev pub Handed : Type 0
Handed = Option (Vec (List (List Datum)) Global)

-- what holds of all parents holds of one that is to be made
pub of_left : (P : ℕ → Type 0) (parents : List ℕ) (side : ℕ) (o : Handed) (left : Option ℕ) (q : ℕ)
    → left ≡ unless_handed o (slice_get parents side) → left ≡ Some q → All P parents → P q
of_left P parents side None left q is some all =
    at_place P parents side q all (sym is ∙ some)
of_left P parents side (Some outputs) left q is some all =
    let e : None ≡ Some q = sym is ∙ some in absurd (cc)

-- the parents that are left are the same where the same was handed in
pub left_same : (before after : ShuffleInputs) (k : ℕ) (node same : NodeData)
    (first second : Option ℕ)
    → after.handed ≡ before.handed → first ≡ left_parent before k node 0
    → second ≡ left_parent before k node 1 → node ≡ same
    → option_to_list first ++ option_to_list second ≡ parents_left after k same
left_same before after k node same first second handed low high is =
    ap₂ (λ a b. option_to_list a ++ option_to_list b) (low ∙ side 0) (high ∙ side 1)
    ∙ ap (parents_left after k) is
  where
    side : (i : ℕ) → left_parent before k node i ≡ left_parent after k node i
    side i =
        ap (λ h. unless_handed (get same_place h (k, i)) (slice_get (parents_of node) i))
        (sym handed)

-- A node, of whose sides some may have been handed in.
module _ (P : ℕ → Type 0) (stages : ShuffleInputs) (k : ℕ) (node : NodeData)
    (all : All P (parents_left stages k node)) where
  pub first_left : (parent : ℕ) → slice_get (parents_of node) 0 ≡ Some parent
      → handed_in stages k 0 ≡ None → P parent
  first_left parent is none =
      holds_first P (left_parent stages k node 0) (left_parent stages k node 1)
      (parents_left stages k node) refl parent (ap₂ unless_handed none is) all

  pub second_left : (parent : ℕ) → slice_get (parents_of node) 1 ≡ Some parent
      → handed_in stages k 1 ≡ None → P parent
  second_left parent is none =
      holds_second P (left_parent stages k node 0) (left_parent stages k node 1)
      (parents_left stages k node) refl parent (ap₂ unless_handed none is) all

-- where something false would hold of what was handed in, nothing was
nothing_if : (o : Handed) (A : Type 0) → IfSome o (λ outputs. A) → (A → ⊥) → o ≡ None
nothing_if None A holds false_so = refl
nothing_if (Some outputs) A holds false_so = absurd (false_so holds)

lies_not : (b : Bool) → b ≡ true → b ≡ false → ⊥
lies_not b is isnt = let e : true ≡ false = sym is ∙ isnt in cc

-- A node, of whose sides only such were handed in as go through a shuffle.
module _ (work : WorkData) (stages : ShuffleInputs) (k : ℕ) (P : ℕ → Type 0) where
  abbrev Through : NodeData → Type 0
  Through node = (side : ℕ) → IfSome (handed_in stages k side) (λ o. GoesThrough work node side)

  -- one that lies so already is read as it is
  lying : (wanted : PartitionerData) (parent : ℕ)
      → (lies_so work wanted parent ≡ true → P parent)
      → HoldsDirectly P (unless_parted (known_of work) (shuffled parent wanted))
  lying wanted parent made = decided (lies_so work wanted parent) refl
    where
      decided : (b : Bool) → lies_so work wanted parent ≡ b
          → HoldsDirectly P (if b then one_to_one parent else shuffled parent wanted)
      decided true so = made so
      decided false so = tt

  directly_left : (node : NodeData) → Through node → All P (parents_left stages k node)
      → HoldDirectly P (dependencies_by (known_of work) node)
  directly_left (text_node name n) through all = tt
  directly_left (parallelize_node rows n) through all = tt
  directly_left (each_node kind parent e) through all =
      let none = nothing_if (handed_in stages k 0) ⊥ (through 0) (λ x. x) in
      (first_left P stages k (each_node kind parent e) all parent refl none, tt)
  directly_left (union_node left right) through all =
      let none = nothing_if (handed_in stages k 0) ⊥ (through 0) (λ x. x) in
      let next = nothing_if (handed_in stages k 1) ⊥ (through 1) (λ x. x) in
      let low = first_left P stages k (union_node left right) all left refl none in
      let high = second_left P stages k (union_node left right) all right refl next in
      ((low, All-nil P), ((high, All-cons P left [] low (All-nil P)), tt))
  directly_left (coalesce_node parent n) through all =
      let none = nothing_if (handed_in stages k 0) ⊥ (through 0) (λ x. x) in
      (first_left P stages k (coalesce_node parent n) all parent refl none, tt)
  directly_left (cache_node parent) through all =
      let none = nothing_if (handed_in stages k 0) ⊥ (through 0) (λ x. x) in
      (first_left P stages k (cache_node parent) all parent refl none, tt)
  directly_left (shuffle_node kind parent n) through all =
      let wanted = partitioner_of_shuffle kind n in (
        lying wanted parent
            (λ so. first_left P stages k (shuffle_node kind parent n) all parent refl
            (nothing_if (handed_in stages k 0) (lies_so work wanted parent ≡ false) (through 0)
            (lies_not (lies_so work wanted parent) so))),
        tt,
      )
  directly_left (meet_node kind left right n) through all =
      let wanted = hash_partitioner n in (
        lying wanted left
            (λ so. first_left P stages k (meet_node kind left right n) all left refl
            (nothing_if (handed_in stages k 0) (lies_so work wanted left ≡ false) (through 0)
            (lies_not (lies_so work wanted left) so))),
        (
          lying wanted right
              (λ so. second_left P stages k (meet_node kind left right n) all right refl
              (nothing_if (handed_in stages k 1) (lies_so work wanted right ≡ false) (through 1)
              (lies_not (lies_so work wanted right) so))),
          tt,
        ),
      )

-- only sides that go through a shuffle were handed in
through_so : (work : WorkData) (k side : ℕ) (o : Handed)
    → IfSome o (λ outputs. AreOutputs work k side outputs.items)
    → IfSome o (λ outputs. GoesThrough work (node_at work k) side)
through_so work k side None are = tt
through_so work k side (Some outputs) are = are.through

-- where the parents that are left were made, all were that are read as they are
pub direct_made : (work : WorkData) (stages : ShuffleInputs) (k : ℕ) → AreRight work stages
    → All (HasMade stages) (parents_left stages k (node_at work k))
    → AtDirectParents work (HasMade stages) k
direct_made work stages k right all =
    directly_left work stages k (HasMade stages) (node_at work k)
    (λ side. through_so work k side (handed_in stages k side) (right.handed k side)) all

-- of a narrow node all parents are left
pub narrow_made : (work : WorkData) (stages : ShuffleInputs) (k : ℕ) → AreRight work stages
    → IsNarrow (node_at work k) → All (HasMade stages) (parents_left stages k (node_at work k))
    → All (HasMade stages) (parents_of (node_at work k))
narrow_made work stages k right narrow all =
    narrow_parents (HasMade stages) (known_of work) (node_at work k) narrow
    (direct_made work stages k right all)
