-- Lemmas on tests, and on some and all of a list.
use Rattle.std.proofs.Common.{◌≡◌, ℕ, zero, suc, ◌+◌, ◌<◌, ◌≤◌, ◌==◌, ◌||◌, ◌&&◌, not, Bool, true, false, List, [], ◌∷◌, All, refl, ap, sym, subst, ◌∙◌, arith, true≢false}
use Rattle.std.proofs.lemmas.Bool.{and_right, or_right}
use Rattle.std.specs.List.{list_all, list_any}
use Rattle.std.proofs.lemmas.Bool.Decides.{nat_tests}
use Rattle.std.proofs.lemmas.List.Elements.{All-head, All-tail}
use Rattle.sc_base.specs.Lists.{numbers_below, numbers_from}

-- ---- tests

pub both_left : (a b : Bool) → (a && b) ≡ true → a ≡ true
both_left true b e = refl
both_left false b e = e

pub both_right : (a b : Bool) → (a && b) ≡ true → b ≡ true
both_right true b e = e
both_right false b e = absurd (true≢false (sym e))

pub not_true : (b : Bool) → not b ≡ true → b ≡ false
not_true true e = sym e
not_true false e = refl

pub not_false : (b : Bool) → not b ≡ false → b ≡ true
not_false true e = refl
not_false false e = sym e

pub clash : {b : Bool} → b ≡ true → b ≡ false → ⊥
clash t f = true≢false (sym t ∙ f)

pub left_only : (b : Bool) → (b || false) ≡ true → b ≡ true
left_only true e = refl
left_only false e = e

-- ---- some and all of a list

pub any_mono :
    {A : Type 0} (p q : A → Bool) (xs : List A) → ((x : A) → p x ≡ true → q x ≡ true)
    → list_any p xs ≡ true → list_any q xs ≡ true
any_mono p q [] h e = e
any_mono p q (x ∷ xs) h e = by (p x) refl e (λ k. any_mono p q xs h k)
  where
    by : (b : Bool) → p x ≡ b → (b || list_any p xs) ≡ true
        → (list_any p xs ≡ true → list_any q xs ≡ true) → (q x || list_any q xs) ≡ true
    by true b e f = rw (h x b) refl
    by false b e f = or_right (q x) (list_any q xs) (f e)

-- a number is one of a list
abbrev pub is_in : List ℕ → ℕ → Bool
is_in xs x = list_any (λ y. y == x) xs

-- the same where each that passes is one of the list
pub any_within :
    (p q : ℕ → Bool) (xs : List ℕ)
    → ((x : ℕ) → is_in xs x ≡ true → p x ≡ true → q x ≡ true)
    → list_any p xs ≡ true → list_any q xs ≡ true
any_within p q [] h e = e
any_within p q (x ∷ xs) h e =
    by (p x) refl e (λ k. any_within p q xs (λ y i. h y (or_right (x == y) (is_in xs y) i)) k)
  where
    itself : is_in (x ∷ xs) x ≡ true
    itself = grind (arith, nat_tests)

    by : (b : Bool) → p x ≡ b → (b || list_any p xs) ≡ true
        → (list_any p xs ≡ true → list_any q xs ≡ true) → (q x || list_any q xs) ≡ true
    by true b e f = rw (h x itself b) refl
    by false b e f = or_right (q x) (list_any q xs) (f e)

-- one of a list on which a test passes
pub any_found :
    {A : Type 0} (p : A → Bool) (xs : List A) → list_any p xs ≡ true → (x : A) × (p x ≡ true)
any_found p [] e = absurd (true≢false (sym e))
any_found {A = A} p (x ∷ xs) e = by (p x) refl e (λ k. any_found p xs k)
  where
    by : (b : Bool) → p x ≡ b → (b || list_any p xs) ≡ true
        → (list_any p xs ≡ true → (y : A) × (p y ≡ true)) → (y : A) × (p y ≡ true)
    by true b e f = (x, b)
    by false b e f = f e

-- tests that agree
pub any_alike :
    {A : Type 0} (p q : A → Bool) (xs : List A) → ((x : A) → p x ≡ q x)
    → list_any p xs ≡ list_any q xs
any_alike p q xs h = ap (λ f. list_any f xs) (λ i. λ x. h x i)

-- what holds of all holds of one
pub all_in : (P : ℕ → Type 0) (xs : List ℕ) (x : ℕ) → All P xs → is_in xs x ≡ true → P x
all_in P [] x a e = absurd (true≢false (sym e))
all_in P (y ∷ ys) x a e = by (y == x) refl e (λ k. all_in P ys x (All-tail P y ys a) k)
  where
    by : (b : Bool) → (y == x) ≡ b → (b || is_in ys x) ≡ true → (is_in ys x ≡ true → P x) → P x
    by true same e f =
        let is : y ≡ x = grind (arith, nat_tests, same) in subst P is (All-head P y ys a)
    by false other e f = f e

-- a test that doesn't pass on all fails on one
pub not_all :
    {A : Type 0} (p : A → Bool) (xs : List A) → list_all p xs ≡ false
    → list_any (λ x. not (p x)) xs ≡ true
not_all p [] e = absurd (true≢false e)
not_all p (x ∷ xs) e = by (p x) e (λ k. not_all p xs k)
  where
    by : (b : Bool) → (b && list_all p xs) ≡ false
        → (list_all p xs ≡ false → list_any (λ y. not (p y)) xs ≡ true)
        → (not b || list_any (λ y. not (p y)) xs) ≡ true
    by true e f = f e
    by false e f = refl

-- what fails on all of a list
pub all_false :
    {A : Type 0} (p q : A → Bool) (xs : List A) → ((x : A) → p x ≡ false → q x ≡ false)
    → list_all p xs ≡ false → list_all q xs ≡ false
all_false p q [] h e = e
all_false p q (x ∷ xs) h e = by (p x) refl e (λ k. all_false p q xs h k)
  where
    by : (b : Bool) → p x ≡ b → (b && list_all p xs) ≡ false
        → (list_all p xs ≡ false → list_all q xs ≡ false) → (q x && list_all q xs) ≡ false
    by false b e f = rw (h x b) refl
    by true b e f = and_right (q x) (list_all q xs) (f e)

-- a test that passes on a number below a bound
any_from :
    (p : ℕ → Bool) (first count k : ℕ) → first ≤ k → k < first + count → p k ≡ true
    → list_any p (numbers_from first count) ≡ true
any_from p first zero k le lt e = absurd (omega (arith, le, lt))
any_from p first (suc count) k le lt e =
    by (first == k) refl (λ more. any_from p (suc first) count k more (omega (arith, lt)) e)
  where
    by : (b : Bool) → (first == k) ≡ b
        → (suc first ≤ k → list_any p (numbers_from (suc first) count) ≡ true)
        → list_any p (numbers_from first (suc count)) ≡ true
    by true same f =
        let is : k ≡ first = grind (arith, nat_tests, same) in
        let here : p first ≡ true = rw is at e in rw here refl
    by false other f =
        let more : suc first ≤ k = grind (arith, nat_tests, other, le) in
        or_right (p first) (list_any p (numbers_from (suc first) count)) (f more)

pub any_below :
    (p : ℕ → Bool) (bound k : ℕ) → k < bound → p k ≡ true
    → list_any p (numbers_below bound) ≡ true
any_below p bound k lt e = any_from p 0 bound k (omega arith) (omega (arith, lt)) e

-- one of some numbers on which a test passes
pub any_member :
    (p : ℕ → Bool) (xs : List ℕ) → list_any p xs ≡ true
    → (x : ℕ) × (is_in xs x ≡ true) × (p x ≡ true)
any_member p [] e = absurd (true≢false (sym e))
any_member p (x ∷ xs) e = by (p x) refl e (λ k. any_member p xs k)
  where
    itself : is_in (x ∷ xs) x ≡ true
    itself = grind (arith, nat_tests)

    by : (b : Bool) → p x ≡ b → (b || list_any p xs) ≡ true
        → (list_any p xs ≡ true → (y : ℕ) × (is_in xs y ≡ true) × (p y ≡ true))
        → (y : ℕ) × (is_in (x ∷ xs) y ≡ true) × (p y ≡ true)
    by true b e f = (x, itself, b)
    by false b e f =
        let r = f e in (r.0, or_right (x == r.0) (is_in xs r.0) r.1, r.2)
