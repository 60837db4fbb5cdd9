-- Filters of lists in order.
use Rattle.std.proofs.Common.{◌≡◌, ◌∙◌, ℕ, zero, suc, ◌<◌, ◌≤◌, Bool, true, false, cond, List, [], ◌∷◌, length, get_or, filter, refl, ap, sym, arith, if◌then◌else◌}
use Rattle.std.specs.Cmp.{IsStrictWeakOrder}
use Rattle.std.specs.List.{AllByRecursion}
use Rattle.std.specs.List.Sorted.{ties}
use Rattle.sc_part.proofs.OrderLemmas.{Asc, asc-sorted, sorted_from_asc}
use Rattle.sc_part.proofs.SortLemmas.{sorted_is, stable-sorted}
use Rattle.sc_part.specs.Sorts.{inserted, sorted}

-- where no item passes
pub none_pass : {X : Type 0} (p : X → Bool) (xs : List X) → AllByRecursion (λ x. p x ≡ false) xs
    → filter p xs ≡ []
none_pass p [] all = refl
none_pass p (x ∷ xs) all =
    ap (λ b. cond b (x ∷ filter p xs) (filter p xs)) all.0 ∙ none_pass p xs all.1

swap_by : {X : Type 0} (p q : X → Bool) (x : X) (xs : List X) (a b : Bool) → p x ≡ a → q x ≡ b
    → filter p (filter q xs) ≡ filter q (filter p xs)
    → filter p (cond b (x ∷ filter q xs) (filter q xs))
    ≡ filter q (cond a (x ∷ filter p xs) (filter p xs))
swap_by p q x xs true true e f rest =
    ap (λ b. cond b (x ∷ filter p (filter q xs)) (filter p (filter q xs))) e
    ∙ ap (λ ys. x ∷ ys) rest
    ∙ sym (ap (λ b. cond b (x ∷ filter q (filter p xs)) (filter q (filter p xs))) f)
swap_by p q x xs true false e f rest =
    rest ∙ sym (ap (λ b. cond b (x ∷ filter q (filter p xs)) (filter q (filter p xs))) f)
swap_by p q x xs false true e f rest =
    ap (λ b. cond b (x ∷ filter p (filter q xs)) (filter p (filter q xs))) e ∙ rest
swap_by p q x xs false false e f rest = rest

filter_swap : {X : Type 0} (p q : X → Bool) (xs : List X)
    → filter p (filter q xs) ≡ filter q (filter p xs)
filter_swap p q [] = refl
filter_swap p q (x ∷ xs) = swap_by p q x xs (p x) (q x) refl refl (filter_swap p q xs)

each_by : {X : Type 0} (P : X → Type 0) (b : Bool) (x : X) (ys : List X) → P x
    → AllByRecursion P ys → AllByRecursion P (cond b (x ∷ ys) ys)
each_by P true x ys one all = (one, all)
each_by P false x ys one all = all

each_filter : {X : Type 0} (P : X → Type 0) (p : X → Bool) (xs : List X) → AllByRecursion P xs
    → AllByRecursion P (filter p xs)
each_filter P p [] all = tt
each_filter P p (x ∷ xs) all =
    each_by P (p x) x (filter p xs) all.0 (each_filter P p xs all.1)

asc_by : {X : Type 0} (lt : X → X → Bool) (b : Bool) (x : X) (ys : List X)
    → AllByRecursion (λ z. lt z x ≡ false) ys → Asc lt ys → Asc lt (cond b (x ∷ ys) ys)
asc_by lt true x ys above up = (above, up)
asc_by lt false x ys above up = up

asc_filter : {X : Type 0} (lt : X → X → Bool) (p : X → Bool) (xs : List X) → Asc lt xs
    → Asc lt (filter p xs)
asc_filter lt p [] up = tt
asc_filter lt p (x ∷ xs) up =
    asc_by lt (p x) x (filter p xs) (each_filter (λ z. lt z x ≡ false) p xs up.0)
    (asc_filter lt p xs up.1)

-- what is kept of sorted items is what is kept, sorted
pub filter-sorted : {X : Type 0} (lt : X → X → Bool) → IsStrictWeakOrder lt → (p : X → Bool)
    → (xs : List X) → filter p (sorted lt xs) ≡ sorted lt (filter p xs)
filter-sorted lt o p xs =
    sorted_is lt o (filter p xs) (filter p (sorted lt xs))
    (sorted_from_asc lt (filter p (sorted lt xs)) (asc_filter lt p (sorted lt xs)
    (asc-sorted lt o xs)))
    (λ z. filter_swap (ties lt z) p (sorted lt xs) ∙ ap (filter p) (stable-sorted lt o xs z)
    ∙ filter_swap p (ties lt z) xs)

-- a sort keeps the length
length_by : {X : Type 0} (b : Bool) (x y : X) (ys us : List X) → length us ≡ suc (length ys)
    → length (if b then y ∷ us else x ∷ y ∷ ys) ≡ suc (suc (length ys))
length_by true x y ys us e = ap suc e
length_by false x y ys us e = refl

length-inserted : {X : Type 0} (lt : X → X → Bool) (x : X) (ys : List X)
    → length (inserted lt x ys) ≡ suc (length ys)
length-inserted lt x [] = refl
length-inserted lt x (y ∷ ys) =
    length_by (lt y x) x y ys (inserted lt x ys) (length-inserted lt x ys)

pub length-sorted : {X : Type 0} (lt : X → X → Bool) (xs : List X)
    → length (sorted lt xs) ≡ length xs
length-sorted lt [] = refl
length-sorted lt (x ∷ xs) =
    length-inserted lt x (sorted lt xs) ∙ ap suc (length-sorted lt xs)

-- as many pass a test as stand before the place where it stops to hold
pub passing : {X : Type 0} (p : X → Bool) (xs : List X) (i : ℕ) → i ≤ length xs
    → ((k : ℕ) (d : X) → k < i → p (get_or xs k d) ≡ true)
    → ((k : ℕ) (d : X) → i ≤ k → k < length xs → p (get_or xs k d) ≡ false)
    → i ≡ length (filter p xs)
passing p [] i bound holds fails = omega arith
passing p (x ∷ xs) zero bound holds fails =
    let first = fails 0 x (omega arith) (omega arith) in
    let e : filter p (x ∷ xs) ≡ filter p xs =
    ap (λ b. cond b (x ∷ filter p xs) (filter p xs)) first in
    passing p xs 0 (omega arith) (λ k d h. absurd (omega arith))
    (λ k d h g. fails (suc k) d (omega arith) (omega arith)) ∙ ap length (sym e)
passing p (x ∷ xs) (suc i) bound holds fails =
    let first = holds 0 x (omega arith) in
    let e : filter p (x ∷ xs) ≡ x ∷ filter p xs =
    ap (λ b. cond b (x ∷ filter p xs) (filter p xs)) first in
    ap suc (passing p xs i (omega arith) (λ k d h. holds (suc k) d (omega arith))
    (λ k d h g. fails (suc k) d (omega arith) (omega arith)))
    ∙ ap length (sym e)
