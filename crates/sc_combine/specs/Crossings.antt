-- Values of two sides, each of the one beside each of the other.
use Rattle.std.specs.Prelude.{◌≡◌, ℕ, List, [], ◌∷◌, ◌++◌, length, map, take}
use Rattle.std.specs.List.{flat_map}
use Rattle.sc_columns.specs.Columns.{zip_with}
use Rattle.sc_value.specs.Datum.{Datum, pair}
use Rattle.sc_value.specs.Picked.{ArePlaces, picked}

-- each value of the left with each of the right, beside a key
abbrev pub crossed_beside : Datum → List Datum → List Datum → List Datum
crossed_beside key left right = flat_map (λ v. map (λ w. pair key (pair v w)) right) left

-- the same for keys, one after another, as far as there are values of both sides
abbrev pub crossed : List Datum → List (List Datum) → List (List Datum) → List Datum
crossed [] lefts rights = []
crossed (key ∷ keys) [] rights = []
crossed (key ∷ keys) (left ∷ lefts) [] = []
crossed (key ∷ keys) (left ∷ lefts) (right ∷ rights) =
    crossed_beside key left right ++ crossed keys lefts rights

-- the keys, the left values and the right values at some places, beside one another
abbrev pub beside : List Datum → List Datum → List Datum → List ℕ → List ℕ → List ℕ → List Datum
beside keys lefts rights gs ls rs =
    zip_with pair (picked keys gs) (zip_with pair (picked lefts ls) (picked rights rs))

-- the values of the first so many groups are crossed at these places
pub record AreCrossed (keys : List Datum) (left right : List Datum)
    (lefts rights : List (List Datum)) (count : ℕ) (gs ls rs : List ℕ) : Type 0 where
  pub are : beside keys left right gs ls rs
      ≡ crossed (take count keys) (take count lefts) (take count rights)
  pub level_left : length gs ≡ length ls
  pub level_right : length ls ≡ length rs
  pub key_places : ArePlaces keys gs
  pub left_places : ArePlaces left ls
  pub right_places : ArePlaces right rs
