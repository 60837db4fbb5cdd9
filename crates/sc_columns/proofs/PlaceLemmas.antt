-- The rows of a column of each form at some places.
use Rattle.std.proofs.Common.{◌≡◌, ◌∙◌, ℕ, ◌<◌, List, [], ◌∷◌, Option, Some, length, map, ap, ap₂, refl, subst, sym, arith, replicate}
use Rattle.std.proofs.lemmas.List.{length-map, length-replicate}
use Rattle.std.proofs.lemmas.List.Elements.{All-cons, All-head, All-nil, All-tail}
use Rattle.std.specs.List.{All, cons_option, slice_get}
use Rattle.sc_value.specs.Picked.{ArePlaces, picked}
use Rattle.sc_columns.specs.Columns.{zip_with}
use Rattle.sc_columns.proofs.ListLemmas.{length-zip_with, slice_get-replicate, slice_get-zip_with, there}

cons-zip_with : {X Y Z : Type 0} (f : X → Y → Z) (o : Option X) (q : Option Y) (x : X) (y : Y)
    (xs : List X) (ys : List Y) → o ≡ Some x → q ≡ Some y
    → zip_with f (cons_option o xs) (cons_option q ys)
    ≡ cons_option (Some (f x y)) (zip_with f xs ys)
cons-zip_with f o q x y xs ys o_is q_is =
    ap₂ (λ p r. zip_with f (cons_option p xs) (cons_option r ys)) o_is q_is

module _ {X Y Z : Type 0} (f : X → Y → Z) (xs : List X) (ys : List Y) where
  abbrev zipped : List Z
  zipped = zip_with f xs ys

  -- a place in the pairs is one in both
  first_within : (p : ℕ) → p < length zipped → p < length xs
  first_within p within = let e = length-zip_with f xs ys in omega (arith, e)

  second_within : (p : ℕ) → p < length zipped → p < length ys
  second_within p within = let e = length-zip_with f xs ys in omega (arith, e)

  pub first_places : (ps : List ℕ) → ArePlaces zipped ps → ArePlaces xs ps
  first_places [] all = All-nil (λ i. i < length xs)
  first_places (p ∷ ps) all =
      All-cons (λ i. i < length xs) p ps
      (first_within p (All-head (λ i. i < length zipped) p ps all))
      (first_places ps (All-tail (λ i. i < length zipped) p ps all))

  pub second_places : (ps : List ℕ) → ArePlaces zipped ps → ArePlaces ys ps
  second_places [] all = All-nil (λ i. i < length ys)
  second_places (p ∷ ps) all =
      All-cons (λ i. i < length ys) p ps
      (second_within p (All-head (λ i. i < length zipped) p ps all))
      (second_places ps (All-tail (λ i. i < length zipped) p ps all))

  pub picked-zip_with : (ps : List ℕ) → ArePlaces zipped ps
      → zip_with f (picked xs ps) (picked ys ps) ≡ picked zipped ps
  picked-zip_with [] all = refl
  picked-zip_with (p ∷ ps) all =
      let within = All-head (λ i. i < length zipped) p ps all in
      let a = there xs p (first_within p within) in
      let b = there ys p (second_within p within) in
      cons-zip_with f (slice_get xs p) (slice_get ys p) a.0 b.0 (picked xs ps) (picked ys ps) a.1
      b.1
      ∙ ap₂ cons_option (sym (slice_get-zip_with f xs ys p a.0 b.0 a.1 b.1))
      (picked-zip_with ps (All-tail (λ i. i < length zipped) p ps all))

pub picked-replicate : {X : Type 0} (n : ℕ) (x : X) (ps : List ℕ) → ArePlaces (replicate n x) ps
    → replicate (length ps) x ≡ picked (replicate n x) ps
picked-replicate n x [] all = refl
picked-replicate n x (p ∷ ps) all =
    let within : p < length (replicate n x) =
    All-head (λ i. i < length (replicate n x)) p ps all in
    let e = length-replicate n x in
    ap (λ r. x ∷ r)
    (picked-replicate n x ps (All-tail (λ i. i < length (replicate n x)) p ps all))
    ∙ ap (λ o. cons_option o (picked (replicate n x) ps))
    (sym (slice_get-replicate n p x (omega (arith, e))))

-- places of what a function gives of items are places of the items
pub places_before : {X Y : Type 0} (f : X → Y) (xs : List X) (ps : List ℕ) → ArePlaces (map f xs) ps
    → ArePlaces xs ps
places_before f xs ps all = subst (λ n. All (λ p. p < n) ps) (length-map xs f) all
