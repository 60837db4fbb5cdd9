-- What lists give together, one after another, and tests of what a function gives.
use Rattle.std.proofs.Common.{◌≡◌, ◌∙◌, ℕ, suc, ◌+◌, ◌<◌, Bool, ◌||◌, List, [], ◌∷◌, ◌++◌, length, map, drop, get_or, refl, ap, sym, arith}
use Rattle.std.proofs.Math.Seq.{drop-cons}
use Rattle.std.specs.List.{flat_map, list_any}

module _ {A B : Type 0} (f : A → List B) where
  -- what lists give together from a place on
  pub flat_next : (xs : List A) (i : ℕ) (x : A) → i < length xs → x ≡ get_or xs i x
      → flat_map f (drop i xs) ≡ f x ++ flat_map f (drop (i + 1) xs)
  flat_next xs i x within at =
      let next : suc i ≡ i + 1 = omega arith in
      ap (λ ys. flat_map f ys) (drop-cons xs i x within)
      ∙ ap (λ k. flat_map f (get_or xs i x ∷ drop k xs)) next
      ∙ ap (λ y. f y ++ flat_map f (drop (i + 1) xs)) (sym at)

pub any-map : {A B : Type 0} (test : B → Bool) (f : A → B) (xs : List A)
    → list_any test (map f xs) ≡ list_any (λ x. test (f x)) xs
any-map test f [] = refl
any-map test f (x ∷ xs) = ap (λ b. test (f x) || b) (any-map test f xs)
