-- What was made for nodes, when one more is made.
use Rattle.std.proofs.Common.{◌≡◌, ◌∙◌, ℕ, ◌<◌, Bool, true, false, cond, nat_eq, List, [], ◌∷◌, ◌++◌, Option, Some, None, All, length, slice_set, refl, sym, subst, arith}
use Rattle.std.proofs.lemmas.Bool.{eqb-true, eqb-false}
use Rattle.std.proofs.lemmas.List.{get_or-set_same, get_or-set_other}
use Rattle.std.proofs.lemmas.List.Elements.{All-nil, All-cons, All-head, All-tail, All-append, All-weaker}
use Rattle.std.specs.Option.{IfSome, is_some, option_to_list}
use Rattle.sc_base.specs.Lists.{at_or}
use Rattle.sc_lineage.specs.Dependencies.{Dependency, one_to_one, range_behind, grouped, shuffled, dependencies_by}
use Rattle.sc_lineage.specs.Meaning.{known_of}
use Rattle.sc_lineage.specs.ScriptData.{WorkData}
use Rattle.sc_lineage.proofs.PlaceLemmas.{at_or-get_or}
use Rattle.sc_compute.specs.Stages.{AreRight, AreSides, AtDirectParents, HasMade, HoldDirectly, HoldsDirectly, IsMade, IsMadeRight, local_count, made_in, node_at}
use Rattle.sc_compute.specs.declared.stages.Sides.{Sides}
use Rattle.sc_compute.specs.declared.stages.ShuffleInputs.{ShuffleInputs}

-- what is known of something that is there
pub there_so : {A : Type 0} (P : A → Type 0) (o : Option A) → is_some o ≡ true → IfSome o P
    → (x : A) × P x
there_so P None some holds = cc
there_so P (Some x) some holds = (x, holds)

-- nothing is not something
pub not_there : {A : Type 0} (o : Option A) → is_some o ≡ true → o ≡ None → ⊥
not_there None some none = cc
not_there (Some x) some none = cc

-- what was made for a node is right
pub made_right : (work : WorkData) (stages : ShuffleInputs) (k : ℕ) → AreRight work stages
    → HasMade stages k
    → (sides : Sides) × IsMadeRight work stages.counts.items (made_in stages) k sides
made_right work stages k right made =
    there_so (IsMadeRight work stages.counts.items (made_in stages) k) (made_in stages k) made
    (right.each k)

-- a node for which something was made has its number of partitions
pub count_made : (work : WorkData) (stages : ShuffleInputs) (k : ℕ) → AreRight work stages
    → HasMade stages k → at_or stages.counts.items k 0 ≡ local_count work k
count_made work stages k right made = (made_right work stages k right made).1.count

-- what is known of a number holds of the same number
pub of_same : (P : ℕ → Type 0) (o : Option ℕ) (p q : ℕ) → o ≡ Some p → o ≡ Some q → P p → P q
of_same P o p q is also holds = let same : p ≡ q = cc in subst P same holds

-- what holds at the parents that are read as they are, when more holds
one_weaker : (P Q : ℕ → Type 0) → ((q : ℕ) → P q → Q q) → (d : Dependency) → HoldsDirectly P d
    → HoldsDirectly Q d
one_weaker P Q f (one_to_one parent) hold = f parent hold
one_weaker P Q f (range_behind parent others) hold =
    (f parent hold.0, All-weaker P Q f others hold.1)
one_weaker P Q f (grouped parent n) hold = f parent hold
one_weaker P Q f (shuffled parent by) hold = tt

pub directly_weaker : (P Q : ℕ → Type 0) → ((q : ℕ) → P q → Q q) → (ds : List Dependency)
    → HoldDirectly P ds → HoldDirectly Q ds
directly_weaker P Q f [] hold = tt
directly_weaker P Q f (d ∷ ds) hold =
    (one_weaker P Q f d hold.0, directly_weaker P Q f ds hold.1)

-- The parents of a node, of which there are two at most.
module _ (P : ℕ → Type 0) (first second : Option ℕ) (parents : List ℕ)
    (are : option_to_list first ++ option_to_list second ≡ parents) where
  pub holds_first : (p : ℕ) → first ≡ Some p → All P parents → P p
  holds_first p is all =
      let Q : Option ℕ → Type 0 = λ o. All P (option_to_list o ++ option_to_list second) in
      All-head P p (option_to_list second) (subst Q is (subst (All P) (sym are) all))

  pub holds_second : (p : ℕ) → second ≡ Some p → All P parents → P p
  holds_second p is all =
      let Q : Option ℕ → Type 0 = λ o. All P (option_to_list first ++ option_to_list o) in
      behind first (subst Q is (subst (All P) (sym are) all))
    where
      behind : (o : Option ℕ) → All P (option_to_list o ++ p ∷ []) → P p
      behind None all_of = All-head P p [] all_of
      behind (Some q) all_of = All-head P p [] (All-tail P q (p ∷ []) all_of)

  pub hold_both : ((p : ℕ) → first ≡ Some p → P p) → ((p : ℕ) → second ≡ Some p → P p)
      → All P parents
  hold_both at_first at_second =
      subst (All P) are
      (All-append P (option_to_list first) (option_to_list second) (each first at_first)
      (each second at_second))
    where
      each : (o : Option ℕ) → ((p : ℕ) → o ≡ Some p → P p) → All P (option_to_list o)
      each None at = All-nil P
      each (Some q) at = All-cons P q [] (at q refl) (All-nil P)

-- What was made, before and after something was made for one node.
module _ (work : WorkData) (before after : ℕ → Option Sides) where
  -- nothing changes
  pub right-same : (counts : List ℕ) → ((k : ℕ) → after k ≡ before k)
      → ((k : ℕ) → IfSome (before k) (IsMadeRight work counts before k))
      → (k : ℕ) → IfSome (after k) (IsMadeRight work counts after k)
  right-same counts same right =
      let P : (ℕ → Option Sides) → Type 0 =
      λ made. (k : ℕ) → IfSome (made k) (IsMadeRight work counts made k) in
      subst P (λ i. λ k. sym (same k) i) right

  module _ (node : ℕ) (sides : Sides)
      (updates : (k : ℕ) → after k ≡ cond (nat_eq node k) (Some sides) (before k)) where
    -- what was made stays
    pub made-kept : (k : ℕ) → IsMade before k → IsMade after k
    made-kept k made =
        subst (λ o. is_some o ≡ true) (sym (updates k)) (here (nat_eq node k))
      where
        here : (b : Bool) → is_some (cond b (Some sides) (before k)) ≡ true
        here true = refl
        here false = made

    -- something is made for the node
    pub made-put : IsMade after node
    made-put =
        subst (λ o. is_some o ≡ true) (sym (updates node)) (here (nat_eq node node) refl)
      where
        here : (b : Bool) → nat_eq node node ≡ b
            → is_some (cond b (Some sides) (before node)) ≡ true
        here true same = refl
        here false other = absurd (eqb-false node node other refl)

    pub right-put : (counts : List ℕ) (count : ℕ) → node < length work.script.nodes
        → length counts ≡ length work.script.nodes → count ≡ local_count work node
        → AtDirectParents work (IsMade before) node
        → AreSides work (node_at work node) sides
        → ((k : ℕ) → IfSome (before k) (IsMadeRight work counts before k))
        → (k : ℕ) → IfSome (after k) (IsMadeRight work (slice_set counts node count) after k)
    right-put counts count known long is parents are right k =
        subst (λ o. IfSome o (IsMadeRight work (slice_set counts node count) after k))
        (sym (updates k)) (here (nat_eq node k) refl)
      where
        of_parents : (j : ℕ) → AtDirectParents work (IsMade before) j
            → AtDirectParents work (IsMade after) j
        of_parents j hold =
            directly_weaker (IsMade before) (IsMade after) made-kept
            (dependencies_by (known_of work) (node_at work j)) hold

        at_node : IsMadeRight work (slice_set counts node count) after node sides
        at_node = record {
          known = known;
          count = at_or-get_or (slice_set counts node count) node 0
              ∙ get_or-set_same counts node count 0 (omega (arith, long)) ∙ is;
          parents = of_parents node parents;
          are = are;
        }

        kept : (o : Option Sides) → nat_eq node k ≡ false
            → IfSome o (IsMadeRight work counts before k)
            → IfSome o (IsMadeRight work (slice_set counts node count) after k)
        kept None other old = tt
        kept (Some old_sides) other old = record {
          known = old.known;
          count = at_or-get_or (slice_set counts node count) k 0
              ∙ get_or-set_other counts node k count 0 (λ e. eqb-false node k other (sym e))
              ∙ sym (at_or-get_or counts k 0) ∙ old.count;
          parents = of_parents k old.parents;
          are = old.are;
        }

        here : (b : Bool) → nat_eq node k ≡ b
            → IfSome (cond b (Some sides) (before k))
            (IsMadeRight work (slice_set counts node count) after k)
        here true same =
            subst (λ j. IsMadeRight work (slice_set counts node count) after j sides)
            (eqb-true node k same) at_node
        here false other = kept (before k) other (right k)
