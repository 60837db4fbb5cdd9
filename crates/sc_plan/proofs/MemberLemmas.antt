-- What a list contains, and whether one of its items passes a test.
use Rattle.std.proofs.Common.{◌≡◌, ◌⊎◌, inl, inr, zero, suc, Bool, true, false, ◌||◌, List, [], ◌∷◌, ◌++◌, refl, sym, subst, arith}
use Rattle.std.specs.List.{list_any}
use Rattle.std.specs.Prelude.{Contains}

-- membership
pub contains_cases : {X : Type 0} (x y : X) (xs : List X) → Contains (x ∷ xs) y
    → (x ≡ y) ⊎ Contains xs y
contains_cases x y xs (zero, within, is) = inl is
contains_cases x y xs (suc k, within, is) = inr (k, omega arith, is)

pub contains_first : {X : Type 0} (x : X) (xs : List X) → Contains (x ∷ xs) x
contains_first x xs = (zero, omega arith, refl)

pub contains_more : {X : Type 0} (x y : X) (xs : List X) → Contains xs y → Contains (x ∷ xs) y
contains_more x y xs (k, within, is) = (suc k, omega arith, is)

pub contains_none : {X : Type 0} (y : X) → Contains [] y → ⊥
contains_none y (k, within, is) = omega arith

pub contains_front : {X : Type 0} (xs : List X) (y z : X) → Contains xs y
    → Contains (xs ++ z ∷ []) y
contains_front [] y z has = absurd (contains_none y has)
contains_front (x ∷ xs) y z has = elim (contains_cases x y xs has) [
  | inl is ↦ subst (λ w. Contains (x ∷ (xs ++ z ∷ [])) w) is (contains_first x (xs ++ z ∷ []))
  | inr later ↦ contains_more x y (xs ++ z ∷ []) (contains_front xs y z later)
]

pub contains_last : {X : Type 0} (xs : List X) (z : X) → Contains (xs ++ z ∷ []) z
contains_last [] z = contains_first z []
contains_last (x ∷ xs) z = contains_more x z (xs ++ z ∷ []) (contains_last xs z)

-- an item that passes a test, and a test that some item passes
any_or : (b c : Bool) → (b || c) ≡ true → (b ≡ true) ⊎ (c ≡ true)
any_or true c is = inl refl
any_or false c is = inr is

or_first : (b c : Bool) → b ≡ true → (b || c) ≡ true
or_first true c is = refl
or_first false c is = absurd cc

or_second : (b c : Bool) → c ≡ true → (b || c) ≡ true
or_second true c is = refl
or_second false c is = is

pub any_of : {X : Type 0} (p : X → Bool) (xs : List X) (y : X) → Contains xs y → p y ≡ true
    → list_any p xs ≡ true
any_of p [] y has is = absurd (contains_none y has)
any_of p (x ∷ xs) y has is = elim (contains_cases x y xs has) [
  | inl same ↦ or_first (p x) (list_any p xs) (subst (λ w. p w ≡ true) (sym same) is)
  | inr later ↦ or_second (p x) (list_any p xs) (any_of p xs y later is)
]

pub of_any : {X : Type 0} (p : X → Bool) (y : X) → ((x : X) → p x ≡ true → x ≡ y) → (xs : List X)
    → list_any p xs ≡ true → Contains xs y
of_any p y means [] is = absurd cc
of_any p y means (x ∷ xs) is = elim (any_or (p x) (list_any p xs) is) [
  | inl here ↦ subst (λ w. Contains (x ∷ xs) w) (means x here) (contains_first x xs)
  | inr later ↦ contains_more x y xs (of_any p y means xs later)
]
