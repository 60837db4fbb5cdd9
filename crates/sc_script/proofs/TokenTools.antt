-- Facts on tests, options and lists that the reading of tokens needs.
use Rattle.std.proofs.Common.{◌≡◌, ℕ, Bool, true, false, cond, List, [], ◌∷◌, ◌++◌, Option, Some, None, refl, ap, sym, ◌⊎◌, inl, inr}
use Rattle.std.proofs.lemmas.Bool.{and_parts, and_from}
use Rattle.std.proofs.lemmas.Option.{none-some, some_pair_parts}
use Rattle.std.specs.List.{list_all}
use Rattle.sc_script.specs.TokenReading.{with_front}

-- which way a test went
pub chosen : {A : Type 0} (b : Bool) (x y z : A) → cond b x y ≡ z → ((b ≡ true) × (x ≡ z))
    ⊎ ((b ≡ false) × (y ≡ z))
chosen true x y z e = inl (refl, e)
chosen false x y z e = inr (refl, e)

-- a test that all pass is passed by the first and by the rest
pub list_all-cons : {X : Type 0} (test : X → Bool) (x : X) (xs : List X)
    → list_all test (x ∷ xs) ≡ true → (test x ≡ true) × (list_all test xs ≡ true)
list_all-cons test x xs all = and_parts (test x) (list_all test xs) all

-- what passes one test passes a weaker one
pub list_all-weaker : {X : Type 0} (strong weak : X → Bool)
    → ((x : X) → strong x ≡ true → weak x ≡ true)
    → (xs : List X) → list_all strong xs ≡ true → list_all weak xs ≡ true
list_all-weaker strong weak step [] all = refl
list_all-weaker strong weak step (x ∷ xs) all =
    let parts = list_all-cons strong x xs all in
    and_from (weak x) (list_all weak xs) (step x parts.0)
    (list_all-weaker strong weak step xs parts.1)

-- a text that was read with bytes before it was read without them
pub with_front_some : (front : List ℕ) (read : Option (List ℕ × List ℕ)) (text after : List ℕ)
    → with_front front read ≡ Some (text, after)
    → (inner : List ℕ) × (read ≡ Some (inner, after)) × (text ≡ front ++ inner)
with_front_some front None text after e = absurd (none-some (text, after) e)
with_front_some front (Some read) text after e =
    let parts = some_pair_parts (front ++ read.0) text read.1 after e in
    (read.0, ap (λ (bytes : List ℕ). Some (read.0, bytes)) parts.1, sym parts.0)
