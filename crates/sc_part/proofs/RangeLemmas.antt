-- How many bounds are before a key.
use Rattle.std.proofs.Common.{◌≡◌, ◌∙◌, ℕ, zero, suc, ◌<◌, ◌≤◌, Bool, true, false, not, List, [], ◌∷◌, length, map, get_or, refl, ap, ap₂, sym, arith, filter, cond}
use Rattle.std.specs.Cmp.{IsStrictWeakOrder, IsTotalOrder}
use Rattle.std.specs.List.Sorted.{IsPartitionedBy, IsSortedBy, IsStrictlySortedBy}
use Rattle.std.specs.Ordering.{is_lt, ordering_reverse}
use Rattle.std.specs.declared.cmp.Ordering.{Ordering}
use Rattle.std.specs.declared.cmp.Ordering.TheVariants.{Less}
use Rattle.std.proofs.lemmas.List.{get_or-map, length-map}
use Rattle.std.proofs.lemmas.List.Filters.{length-filter_both}
use Rattle.std.proofs.lemmas.List.Sorted.{ranks_by, sorted_far}
use Rattle.sc_part.proofs.OrderLemmas.{Asc, each_weaker, sorted_from_asc}
use Rattle.sc_part.specs.Bounds.{is_before, range_of}
use Rattle.sc_value.specs.Keys.{KeyData, KeysAreOrdered, key_order}

pub range-le : (bounds : List KeyData) (key : KeyData) → range_of bounds key ≤ length bounds
range-le bounds key =
    let both = length-filter_both (λ b. is_before b key) (λ b. not (is_before b key)) (λ b. refl)
    bounds in
    omega arith

-- what is strictly in order is in order
module _ {K : Type 0} (cmp : K → K → Ordering) (total : IsTotalOrder cmp) where
  not_before : (x y : K) → cmp x y ≡ Less → is_lt (cmp y x) ≡ false
  not_before x y less =
      ap is_lt (total.antisymm y x) ∙ ap (λ r. is_lt (ordering_reverse r)) less

  asc_from_strict : (xs : List K) → IsStrictlySortedBy cmp xs → Asc (λ a b. is_lt (cmp a b)) xs
  unfolding IsStrictlySortedBy
  asc_from_strict [] up = tt
  asc_from_strict (x ∷ xs) up =
      let above = each_weaker (λ y. cmp x y ≡ Less) (λ y. is_lt (cmp y x) ≡ false) xs
      (λ y less. not_before x y less) up.0 in
      (above, asc_from_strict xs up.1)

-- as many pass a test as stand before the place where it stops to hold
passing : {X : Type 0} (p : X → Bool) (xs : List X) (i : ℕ) → i ≤ length xs
    → ((k : ℕ) (d : X) → k < i → p (get_or xs k d) ≡ true)
    → ((k : ℕ) (d : X) → i ≤ k → k < length xs → p (get_or xs k d) ≡ false)
    → i ≡ length (filter p xs)
passing p [] i bound holds fails = omega arith
passing p (x ∷ xs) zero bound holds fails =
    let first = fails 0 x (omega arith) (omega arith) in
    let e : filter p (x ∷ xs) ≡ filter p xs =
    ap (λ b. cond b (x ∷ filter p xs) (filter p xs)) first in
    passing p xs 0 (omega arith) (λ k d h. absurd (omega arith))
    (λ k d h g. fails (suc k) d (omega arith) (omega arith)) ∙ ap length (sym e)
passing p (x ∷ xs) (suc i) bound holds fails =
    let first = holds 0 x (omega arith) in
    let e : filter p (x ∷ xs) ≡ x ∷ filter p xs =
    ap (λ b. cond b (x ∷ filter p xs) (filter p xs)) first in
    ap suc (passing p xs i (omega arith) (λ k d h. holds (suc k) d (omega arith))
    (λ k d h g. fails (suc k) d (omega arith) (omega arith)))
    ∙ ap length (sym e)

filter_by : {X K : Type 0} (b : Bool) (x : X) (k : K) (us : List X) (vs : List K)
    → length vs ≡ length us → length (cond b (k ∷ vs) vs) ≡ length (cond b (x ∷ us) us)
filter_by true x k us vs e = ap suc e
filter_by false x k us vs e = e

filter-map : {X K : Type 0} (f : X → K) (p : K → Bool) (xs : List X)
    → length (filter p (map f xs)) ≡ length (filter (λ x. p (f x)) xs)
filter-map f p [] = refl
filter-map f p (x ∷ xs) =
    filter_by (p (f x)) x (f x) (filter (λ x. p (f x)) xs) (filter p (map f xs))
    (filter-map f p xs)

still : {K : Type 0} (lt : K → K → Bool) (o : IsStrictWeakOrder lt) (a b key : K) (r : Bool)
    → lt a key ≡ r → lt b a ≡ false → lt b key ≡ true → r ≡ true
still lt o a b key true is up below = refl
still lt o a b key false is up below = sym (o.chain b a key up is) ∙ below

module _ {X : Type 0} (f : X → KeyData) (ordered : KeysAreOrdered) (xs : List X) (key : KeyData)
    (strict : IsStrictlySortedBy key_order (map f xs)) where
  in_order : IsSortedBy is_before (map f xs)
  in_order =
      let up = asc_from_strict key_order ordered.total (map f xs) strict in
      sorted_from_asc is_before (map f xs) up

  -- the bounds before a key come first
  pub parted : IsPartitionedBy (λ x. is_before (f x) key) xs
  parted i j d low within below =
      let o : IsStrictWeakOrder is_before = ranks_by ordered.total (λ k. k) in
      let count : length (map f xs) ≡ length xs = length-map xs f in
      let far = sorted_far is_before o (map f xs) in_order i j (f d) low (omega arith) in
      let at_i = get_or-map f xs i d (f d) (omega arith) in
      let at_j = get_or-map f xs j d (f d) within in
      still is_before o (f (get_or xs i d)) (f (get_or xs j d)) key
      (is_before (f (get_or xs i d)) key) refl
      (sym (ap₂ (λ a b. is_before b a) at_i at_j) ∙ far) below

  -- so the place where they end is how many there are
  pub range_is : (i : ℕ) → i ≤ length xs
      → ((k : ℕ) (d : X) → k < i → is_before (f (get_or xs k d)) key ≡ true)
      → ((k : ℕ) (d : X) → i ≤ k → k < length xs → is_before (f (get_or xs k d)) key ≡ false)
      → i ≡ range_of (map f xs) key
  range_is i bound holds fails =
      passing (λ x. is_before (f x) key) xs i bound holds fails
      ∙ sym (filter-map f (λ k. is_before k key) xs)
