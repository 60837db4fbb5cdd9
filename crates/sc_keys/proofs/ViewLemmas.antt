-- Groups of items that stand for keys.
use Rattle.std.proofs.Common.{◌≡◌, ◌∙◌, ◌+◌, ℕ, Bool, true, false, cond, List, [], ◌∷◌, ◌++◌, map, fold, length, refl, ap, ap₂, sym, ◌||◌, not, if◌then◌else◌}
use Rattle.std.proofs.lemmas.List.{length-map, map-append}
use Rattle.std.specs.List.{list_any}
use Rattle.sc_keys.proofs.OrderLemmas.{few_by}
use Rattle.sc_keys.specs.Groups.{AreGroups, distinct, groups, place_in, with_key}

module _ {X K : Type 0} (f : X → K) (alike : X → X → Bool) (same : K → K → Bool)
    (agree : (x y : X) → alike x y ≡ same (f x) (f y)) where
  any-map : (xs : List X) (x : X) → list_any (alike x) xs ≡ list_any (same (f x)) (map f xs)
  any-map [] x = refl
  any-map (y ∷ xs) x = ap₂ (λ a b. a || b) (agree x y) (any-map xs x)

  -- an item has the place of its key
  pub place-map : (xs : List X) (x : X) → place_in alike xs x ≡ place_in same (map f xs) (f x)
  place-map [] x = refl
  place-map (y ∷ xs) x = ap₂ (λ b n. cond (not b) (1 + n) 0) (agree x y) (place-map xs x)

  with_key_by : (b : Bool) (xs : List X) (x : X)
      → map f (if b then xs else xs ++ x ∷ []) ≡ (if b then map f xs else map f xs ++ f x ∷ [])
  with_key_by true xs x = refl
  with_key_by false xs x = map-append f xs (x ∷ [])

  pub with_key-map : (xs : List X) (x : X)
      → map f (with_key alike xs x) ≡ with_key same (map f xs) (f x)
  with_key-map xs x =
      with_key_by (list_any (alike x) xs) xs x
      ∙ ap (λ b. if b then map f xs else map f xs ++ f x ∷ []) (any-map xs x)

  fold-map : (known xs : List X)
      → fold (with_key same) (map f known) (map f xs) ≡ map f (fold (with_key alike) known xs)
  fold-map known [] = refl
  fold-map known (x ∷ xs) =
      ap (λ ks. fold (with_key same) ks (map f xs)) (sym (with_key-map known x))
      ∙ fold-map (with_key alike known x) xs

  distinct-map : (xs : List X) → distinct same (map f xs) ≡ map f (distinct alike xs)
  distinct-map xs = fold-map [] xs

  places-map : (known xs : List X)
      → map (place_in alike known) xs ≡ map (place_in same (map f known)) (map f xs)
  places-map known [] = refl
  places-map known (x ∷ xs) = ap₂ (λ n ns. n ∷ ns) (place-map known x) (places-map known xs)

  groups-map : (xs : List X) → groups alike xs ≡ groups same (map f xs)
  groups-map xs =
      places-map (distinct alike xs) xs
      ∙ ap (λ ks. map (place_in same ks) (map f xs)) (sym (distinct-map xs))

  -- groups of items are those of their keys
  pub are_groups-map : (xs : List X) (numbers : List ℕ) (count : ℕ)
      → AreGroups alike xs numbers count → AreGroups same (map f xs) numbers count
  are_groups-map xs numbers count are = record {
    are = are.are ∙ groups-map xs;
    counted = are.counted ∙ sym (length-map (distinct alike xs) f)
        ∙ ap length (sym (distinct-map xs));
    below = are.below;
    within = few_by (length (map f xs)) (length xs) (length-map xs f) are.within;
  }
