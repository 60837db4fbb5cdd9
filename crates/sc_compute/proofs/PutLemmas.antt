-- What sides are read from, and what stays, when something is made for one node.
use Rattle.std.proofs.Common.{◌≡◌, ◌∙◌, ℕ, ◌⊎◌, inl, inr, Bool, true, false, cond, nat_eq, Option, Some, None, refl, sym, subst}
use Rattle.std.proofs.lemmas.Bool.{eqb-true}
use Rattle.std.specs.Option.{IfSome, is_some}
use Rattle.sc_compute.specs.Inputs.{Makes}
use Rattle.sc_compute.specs.Stages.{AreReadOf, HasMade, made_in}
use Rattle.sc_compute.specs.declared.stages.Sides.{Sides}
use Rattle.sc_compute.specs.declared.stages.ShuffleInputs.{ShuffleInputs}
use Rattle.sc_compute.proofs.LeftLemmas.{Handed}
use Rattle.sc_compute.proofs.StageLemmas.{not_there}

-- What is read, where the same was handed in.
module _ (handed : ℕ → ℕ → Handed) (before after : ℕ → Option Sides)
    (read : (k : ℕ) → IfSome (before k) (AreReadOf (handed k))) where
  -- nothing is made
  pub read_same : ((k : ℕ) → after k ≡ before k)
      → (k : ℕ) → IfSome (after k) (AreReadOf (handed k))
  read_same same k = subst (λ o. IfSome o (AreReadOf (handed k))) (sym (same k)) (read k)

  -- something is made for one node more
  pub read_put : (node : ℕ) (sides : Sides)
      → ((k : ℕ) → after k ≡ cond (nat_eq node k) (Some sides) (before k))
      → AreReadOf (handed node) sides → (k : ℕ) → IfSome (after k) (AreReadOf (handed k))
  read_put node sides updates one k =
      subst (λ o. IfSome o (AreReadOf (handed k))) (sym (updates k)) (here (nat_eq node k) refl)
    where
      here : (b : Bool) → nat_eq node k ≡ b
          → IfSome (cond b (Some sides) (before k)) (AreReadOf (handed k))
      here true is = subst (λ j. AreReadOf (handed j) sides) (eqb-true node k is) one
      here false other = read k

-- where nothing was made nothing is read
pub read_none : (handed : ℕ → ℕ → Handed) (made : ℕ → Option Sides) → ((k : ℕ) → made k ≡ None)
    → (k : ℕ) → IfSome (made k) (AreReadOf (handed k))
read_none handed made none k = subst (λ o. IfSome o (AreReadOf (handed k))) (sym (none k)) tt

-- nothing is made
pub makes_none : (node : ℕ) (before after : ShuffleInputs)
    → ((k : ℕ) → made_in after k ≡ made_in before k) → after.handed ≡ before.handed
    → after.bounds ≡ before.bounds → Makes node before after
makes_none node before after same handed told = record {
  kept = λ k made. same k;
  only = λ k made. inl (subst (λ o. is_some o ≡ true) (same k) made);
  handed = handed;
  told = told;
}

-- something is made for one node
pub makes_put : (node : ℕ) (before after : ShuffleInputs) (sides : Sides)
    → made_in before node ≡ None
    → ((k : ℕ) → made_in after k ≡ cond (nat_eq node k) (Some sides) (made_in before k))
    → after.handed ≡ before.handed → after.bounds ≡ before.bounds → Makes node before after
makes_put node before after sides unmade updates handed told = record {
  kept = λ k made. updates k ∙ stays k (nat_eq node k) refl made;
  only = λ k made.
      by k (nat_eq node k) refl (subst (λ o. is_some o ≡ true) (updates k) made);
  handed = handed;
  told = told;
}
  where
    stays : (k : ℕ) (b : Bool) → nat_eq node k ≡ b → HasMade before k
        → cond b (Some sides) (made_in before k) ≡ made_in before k
    stays k true same made =
        absurd (not_there (made_in before k) made
        (subst (λ j. made_in before j ≡ None) (eqb-true node k same) unmade))
    stays k false other made = refl

    by : (k : ℕ) (b : Bool) → nat_eq node k ≡ b
        → is_some (cond b (Some sides) (made_in before k)) ≡ true
        → HasMade before k ⊎ (node ≡ k)
    by k true same there = inr (eqb-true node k same)
    by k false other there = inl there
