-- Items at places, and the numbers below a bound.
use Rattle.std.proofs.Common.{◌≡◌, ◌∙◌, ℕ, zero, suc, ◌+◌, ◌<◌, ◌≤◌, List, [], ◌∷◌, ◌++◌, Some, length, map, take, get_or, refl, ap, arith}
use Rattle.std.proofs.lemmas.List.Elements.{All-nil, All-cons}
use Rattle.std.specs.List.{slice_get, All}
use Rattle.sc_base.specs.Lists.{numbers_from, numbers_below, at_or}

-- the first item behind others
pub at_or-behind : {A : Type 0} (xs ys : List A) (x : A) (i : ℕ) (other : A) → i ≡ length xs
    → at_or (xs ++ x ∷ ys) i other ≡ x
at_or-behind [] ys x zero other is = refl
at_or-behind [] ys x (suc i) other is = absurd (omega arith)
at_or-behind (y ∷ xs) ys x zero other is = absurd (omega arith)
at_or-behind (y ∷ xs) ys x (suc i) other is = at_or-behind xs ys x i other (omega arith)

-- an item is still there among the first ones
pub at_or-take : {A : Type 0} (xs : List A) (n i : ℕ) (other : A) → i < n
    → at_or (take n xs) i other ≡ at_or xs i other
at_or-take [] zero i other below = refl
at_or-take [] (suc n) i other below = refl
at_or-take (x ∷ xs) zero i other below = absurd (omega arith)
at_or-take (x ∷ xs) (suc n) zero other below = refl
at_or-take (x ∷ xs) (suc n) (suc i) other below = at_or-take xs n i other (omega arith)

-- past the end there is the other one
pub at_or-past : {A : Type 0} (xs : List A) (i : ℕ) (other : A) → length xs ≤ i
    → at_or xs i other ≡ other
at_or-past [] i other past = refl
at_or-past (x ∷ xs) zero other past = absurd (omega arith)
at_or-past (x ∷ xs) (suc i) other past = at_or-past xs i other (omega arith)

-- a function of an item that is there
pub at_or-map : {A B : Type 0} (f : A → B) (xs : List A) (i : ℕ) (other : A) (mapped : B)
    → i < length xs → at_or (map f xs) i mapped ≡ f (at_or xs i other)
at_or-map f [] i other mapped within = absurd (omega arith)
at_or-map f (x ∷ xs) zero other mapped within = refl
at_or-map f (x ∷ xs) (suc i) other mapped within = at_or-map f xs i other mapped (omega arith)

-- a function of any item, also of the one past the end
pub at_or-map_any : {A B : Type 0} (f : A → B) (xs : List A) (i : ℕ) (other : A)
    → at_or (map f xs) i (f other) ≡ f (at_or xs i other)
at_or-map_any f [] i other = refl
at_or-map_any f (x ∷ xs) zero other = refl
at_or-map_any f (x ∷ xs) (suc i) other = at_or-map_any f xs i other

-- an item that was found
pub at_or-found : {A : Type 0} (xs : List A) (i : ℕ) (x other : A) → slice_get xs i ≡ Some x
    → at_or xs i other ≡ x
at_or-found [] i x other is = cc
at_or-found (y ∷ xs) zero x other is = cc
at_or-found (y ∷ xs) (suc i) x other is = at_or-found xs i x other is

-- std's word for the same
pub at_or-get_or : {A : Type 0} (xs : List A) (i : ℕ) (other : A)
    → at_or xs i other ≡ get_or xs i other
at_or-get_or [] i other = refl
at_or-get_or (x ∷ xs) zero other = refl
at_or-get_or (x ∷ xs) (suc i) other = at_or-get_or xs i other

-- an item that is there is found
pub slice_get-at_or : {A : Type 0} (xs : List A) (i : ℕ) (other : A) → i < length xs
    → slice_get xs i ≡ Some (at_or xs i other)
slice_get-at_or [] i other within = absurd (omega arith)
slice_get-at_or (x ∷ xs) zero other within = refl
slice_get-at_or (x ∷ xs) (suc i) other within = slice_get-at_or xs i other (omega arith)

pub length-numbers_from : (first count : ℕ) → length (numbers_from first count) ≡ count
length-numbers_from first zero = refl
length-numbers_from first (suc count) = ap suc (length-numbers_from (suc first) count)

pub at_or-numbers_from : (first count i other : ℕ) → i < count
    → at_or (numbers_from first count) i other ≡ first + i
at_or-numbers_from first zero i other within = absurd (omega arith)
at_or-numbers_from first (suc count) zero other within = omega arith
at_or-numbers_from first (suc count) (suc i) other within =
    let rest = at_or-numbers_from (suc first) count i other (omega arith) in omega (arith, rest)

-- one number more
pub numbers_from-more : (first count : ℕ)
    → numbers_from first (suc count) ≡ numbers_from first count ++ (first + count) ∷ []
numbers_from-more first zero = let e : first ≡ first + 0 = omega arith in ap (λ n. n ∷ []) e
numbers_from-more first (suc count) =
    let e : suc first + count ≡ first + suc count = omega arith in
    ap (λ ns. first ∷ ns)
    (numbers_from-more (suc first) count ∙ ap (λ n. numbers_from (suc first) count ++ n ∷ []) e)

-- what holds of each number from one to another
pub All-numbers_from : (P : ℕ → Type 0) (first count : ℕ)
    → ((i : ℕ) → first ≤ i → i < first + count → P i) → All P (numbers_from first count)
All-numbers_from P first zero each = All-nil P
All-numbers_from P first (suc count) each =
    All-cons P first (numbers_from (suc first) count) (each first (omega arith) (omega arith))
    (All-numbers_from P (suc first) count (λ i from to. each i (omega arith) (omega arith)))

-- there are as many numbers below a bound as it says
pub length-numbers_below : (bound : ℕ) → length (numbers_below bound) ≡ bound
length-numbers_below bound = length-numbers_from 0 bound

-- a function of each number below a bound, at one of them
pub at_or-numbers_below : {A : Type 0} (f : ℕ → A) (bound i : ℕ) (other : A) → i < bound
    → at_or (map f (numbers_below bound)) i other ≡ f i
at_or-numbers_below f bound i other within =
    let place : at_or (numbers_below bound) i 0 ≡ i =
    at_or-numbers_from 0 bound i 0 within ∙ omega arith in
    at_or-map f (numbers_below bound) i 0 other (omega (arith, length-numbers_below bound))
    ∙ ap f place
