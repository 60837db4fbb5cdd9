-- How what is due is numbered.
use Rattle.std.proofs.Common.{◌≡◌, ◌∙◌, ℕ, zero, suc, ◌<◌, ◌≤◌, Bool, true, false, cond, List, [], ◌∷◌, length, filter, Some, refl, ap, subst, arith}
use Rattle.std.proofs.lemmas.Bool.Decides.{nat_tests}
use Rattle.std.specs.Cmp.{IsStrictWeakOrder}
use Rattle.std.specs.List.{AllByRecursion}
use Rattle.std.specs.Prelude.{nat_le, slice_get, ◌↔◌}
use Rattle.sc_part.proofs.OrderLemmas.{Asc, asc-sorted, sorted_from_asc}
use Rattle.sc_part.proofs.SortLemmas.{permutation-sorted, stable-sorted}
use Rattle.sc_plan.proofs.FilterLemmas.{filter-sorted, length-sorted}
use Rattle.sc_plan.specs.Laws.{OrdersAreNumbered}
use Rattle.sc_plan.specs.Orders.{Due, due_count, in_order, is_sooner}

sooner : IsStrictWeakOrder is_sooner
sooner = record {
  one_way = λ x y h. grind (arith, nat_tests);
  chain = λ x y z h k. grind (arith, nat_tests);
}

module _ (told : ℕ) where
  abbrev IsDue : Due → Bool
  IsDue d = nat_le d.0 told

  abbrev count : List Due → ℕ
  count ds = length (filter IsDue ds)

  -- none behind one that isn't due is due
  later : (x : Due) (ds : List Due) → IsDue x ≡ false
      → AllByRecursion (λ z. is_sooner z x ≡ false) ds → AllByRecursion (λ z. IsDue z ≡ false) ds
  later x [] not above = tt
  later x (d ∷ ds) not above =
      let first : is_sooner d x ≡ false = above.0 in
      (grind (arith, nat_tests), later x ds not above.1)

  none : (ds : List Due) → AllByRecursion (λ z. IsDue z ≡ false) ds → count ds ≡ 0
  none [] all = refl
  none (d ∷ ds) all =
      ap (λ b. length (cond b (d ∷ filter IsDue ds) (filter IsDue ds))) all.0 ∙ none ds all.1

  none_there : (ds : List Due) (i : ℕ) (d : Due) → AllByRecursion (λ z. IsDue z ≡ false) ds
      → slice_get ds i ≡ Some d → IsDue d ≡ false
  none_there [] i d all at = absurd cc
  none_there (x ∷ xs) zero d all at =
      let same : x ≡ d = cc in
      subst (λ z. IsDue z ≡ false) same all.0
  none_there (x ∷ xs) (suc i) d all at = none_there xs i d all.1 at

  abbrev Splits : List Due → ℕ → Due → Type 0
  Splits ds i d = (i < count ds) ↔ (d.0 ≤ told)

  none_splits : (ds : List Due) (i : ℕ) (d : Due) → AllByRecursion (λ z. IsDue z ≡ false) ds
      → slice_get ds i ≡ Some d → Splits ds i d
  none_splits ds i d all at =
      let no : count ds ≡ 0 = none ds all in
      let not : IsDue d ≡ false = none_there ds i d all at in
      (λ h. absurd (omega (arith, no, h)), λ h. absurd (grind (arith, nat_tests)))

  front_splits : (x : Due) (ds : List Due) (i : ℕ) (d : Due) → IsDue x ≡ true
      → slice_get (x ∷ ds) i ≡ Some d
      → ((j : ℕ) → slice_get ds j ≡ Some d → Splits ds j d) → Splits (x ∷ ds) i d
  front_splits x ds zero d is at rest =
      let same : x ≡ d = cc in
      let due : IsDue d ≡ true = subst (λ z. IsDue z ≡ true) same is in
      let one : count (x ∷ ds) ≡ suc (count ds) =
      ap (λ b. length (cond b (x ∷ filter IsDue ds) (filter IsDue ds))) is in
      (λ h. grind (arith, nat_tests), λ h. omega (arith, one))
  front_splits x ds (suc i) d is at rest =
      let one : count (x ∷ ds) ≡ suc (count ds) =
      ap (λ b. length (cond b (x ∷ filter IsDue ds) (filter IsDue ds))) is in
      let r = rest i at in
      (λ h. r.0 (omega (arith, one, h)), λ h. omega (arith, one, r.1 h))

  splits : (ds : List Due) → Asc is_sooner ds → (i : ℕ) (d : Due) → slice_get ds i ≡ Some d
      → Splits ds i d
  splits [] up i d at = absurd cc
  splits (x ∷ xs) up i d at =
      go (IsDue x) refl (λ j at_j. splits xs up.1 j d at_j) where
        go : (b : Bool) → IsDue x ≡ b
            → ((j : ℕ) → slice_get xs j ≡ Some d → Splits xs j d) → Splits (x ∷ xs) i d
        go true is rest = front_splits x xs i d is at rest
        go false is rest = none_splits (x ∷ xs) i d (is, later x xs is up.0) at

  count-in_order : (ds : List Due) → count (in_order ds) ≡ due_count ds told
  count-in_order ds =
      ap (λ (xs : List Due). length xs) (filter-sorted is_sooner sooner IsDue ds)
      ∙ length-sorted is_sooner (filter IsDue ds)

pub numbered : OrdersAreNumbered
numbered dues = record {
  sooner = sorted_from_asc is_sooner (in_order dues) (asc-sorted is_sooner sooner dues);
  stable = stable-sorted is_sooner sooner dues;
  whole = permutation-sorted is_sooner dues;
  due = λ told i d at.
      let s = splits told (in_order dues) (asc-sorted is_sooner sooner dues) i d at in
      subst (λ n. (i < n) ↔ (d.0 ≤ told)) (count-in_order told dues) s;
}
