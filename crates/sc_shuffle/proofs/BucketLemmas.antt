-- Rows that were split by their buckets are the rows of each bucket.
use Rattle.std.proofs.Common.{◌≡◌, ◌∙◌, ℕ, suc, ◌+◌, ◌==◌, Bool, true, false, List, [], ◌∷◌, Option, Some, length, map, refl, ap, ap₂, arith, if◌then◌else◌}
use Rattle.std.specs.List.{cons_option, filter_map, slice_get}
use Rattle.sc_base.specs.Lists.{numbers_below}
use Rattle.sc_keys.specs.Splits.{places_from, places_of, split_places}
use Rattle.sc_value.specs.Datum.{Datum}
use Rattle.sc_value.specs.Picked.{picked}
use Rattle.sc_shuffle.specs.Buckets.{by_bucket, rows_of_bucket}

place_by : (b : Bool) (get : ℕ → Option Datum) (i : ℕ) (row : Datum) (ps : List ℕ)
    (rest : List Datum) → get i ≡ Some row → filter_map get ps ≡ rest
    → filter_map get (if b then i ∷ ps else ps) ≡ (if b then row ∷ rest else rest)
place_by true get i row ps rest at is = ap₂ cons_option at is
place_by false get i row ps rest at is = is

picked_at : (j i : ℕ) (get : ℕ → Option Datum) (buckets : List ℕ) (rows : List Datum)
    → length buckets ≡ length rows → ((n : ℕ) → get (i + n) ≡ slice_get rows n)
    → filter_map get (places_from i j buckets) ≡ rows_of_bucket j buckets rows
picked_at j i get [] rows level at = refl
picked_at j i get (b ∷ bs) [] level at = absurd (omega arith)
picked_at j i get (b ∷ bs) (row ∷ rows) level at =
    let here : i ≡ i + 0 = omega arith in
    place_by (b == j) get i row (places_from (suc i) j bs) (rows_of_bucket j bs rows)
    (ap get here ∙ at 0)
    (picked_at j (suc i) get bs rows (omega arith)
    (λ n. let e : suc i + n ≡ i + suc n = omega arith in ap get e ∙ at (suc n)))

map_each : {X Y : Type 0} (f g : X → Y) → ((x : X) → f x ≡ g x) → (xs : List X)
    → map f xs ≡ map g xs
map_each f g each [] = refl
map_each f g each (x ∷ xs) = ap₂ (λ y ys. y ∷ ys) (each x) (map_each f g each xs)

map_twice : {X Y Z : Type 0} (f : X → Y) (g : Y → Z) (xs : List X)
    → map g (map f xs) ≡ map (λ x. g (f x)) xs
map_twice f g [] = refl
map_twice f g (x ∷ xs) = ap (λ r. g (f x) ∷ r) (map_twice f g xs)

-- what was picked by a split
pub split_is : (n : ℕ) (buckets : List ℕ) (rows : List Datum) → length buckets ≡ length rows
    → map (picked rows) (split_places n buckets) ≡ by_bucket n buckets rows
split_is n buckets rows level =
    map_twice (λ j. places_of j buckets) (picked rows) (numbers_below n)
    ∙ map_each (λ j. picked rows (places_of j buckets)) (λ j. rows_of_bucket j buckets rows)
    (λ j. picked_at j 0 (slice_get rows) buckets rows level
    (λ k. let e : 0 + k ≡ k = omega arith in ap (slice_get rows) e))
    (numbers_below n)
