-- Where the blocks lie that stages read.
use Rattle.std.proofs.Common.{◌≡◌, ℕ, ◌+◌, List, [], ◌∷◌, ◌++◌, map, ap, sym, ◌∙◌, append_assoc}
use Rattle.std.proofs.lemmas.List.{map-append}
use Rattle.sc_base.specs.Lists.{numbers_below}
use Rattle.sc_dag.proofs.NumberLemmas.{numbers_more}

-- one more item is pushed behind those of the numbers below
pub numbered_more : {A : Type 0} (f : ℕ → A) (k : ℕ) (first now after : List A) (x : A)
    → now ≡ first ++ map f (numbers_below k) → x ≡ f k → after ≡ now ++ x ∷ []
    → after ≡ first ++ map f (numbers_below (k + 1))
numbered_more f k first now after x so_far is pushed =
    pushed ∙ ap (λ xs. xs ++ x ∷ []) so_far
    ∙ append_assoc first (map f (numbers_below k)) (x ∷ [])
    ∙ ap (λ y. first ++ (map f (numbers_below k) ++ y ∷ [])) is
    ∙ ap (λ xs. first ++ xs)
    (sym (ap (map f) (numbers_more k) ∙ map-append f (numbers_below k) (k ∷ [])))
