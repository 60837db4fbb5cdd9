-- Lemmas on the place of a shuffle among others.
use Rattle.std.proofs.Common.{◌≡◌, ◌⊎◌, inl, inr, ℕ, Bool, true, false, List, length, Option, Some, None, unwrap_or, cond, not, ltb, ap, ◌∙◌, arith}
use Rattle.std.proofs.lemmas.List.Sums.{prefix_len-le-length}
use Rattle.std.proofs.lemmas.Bool.{cases_Bool, cond-true, cond-false, ltb-false}
use Rattle.std.specs.List.{position_or_len}

-- the first place that passes, or else the length, is one number
pub position_or_length : {A : Type 0} (test : A → Bool) (xs : List A) (found : Option ℕ)
    → found ≡ cond (ltb (position_or_len test xs) (length xs))
    (Some (position_or_len test xs)) None
    → unwrap_or found (length xs) ≡ position_or_len test xs
position_or_length test xs found is = at (cases_Bool (ltb (position_or_len test xs) (length xs)))
  where
    at : (ltb (position_or_len test xs) (length xs) ≡ true)
        ⊎ (ltb (position_or_len test xs) (length xs) ≡ false)
        → unwrap_or found (length xs) ≡ position_or_len test xs
    at (inl within) = ap (λ o. unwrap_or o (length xs)) (is ∙ cond-true _ _ _ within)
    at (inr past) =
        ap (λ o. unwrap_or o (length xs)) (is ∙ cond-false _ _ _ past)
        ∙ omega (arith, ltb-false _ _ past, prefix_len-le-length (λ x. not (test x)) xs)
