-- Laws of groups, buckets and places.
use Rattle.std.specs.Prelude.{◌≡◌, ◌==◌, ◌<◌, ℕ, Bool, List, Some, filter, length, map, slice_get, slice_range}
use Rattle.std.specs.Cmp.{IsEquivalence}
use Rattle.std.specs.List.{All, concat}
use Rattle.sc_value.specs.Datum.{Datum}
use Rattle.sc_value.specs.Keys.{KeyData}
use Rattle.sc_value.specs.Picked.{ArePlaces, picked}
use Rattle.sc_keys.specs.Groups.{AreDistinct, distinct, groups}
use Rattle.sc_keys.specs.Splits.{places_of, split_places}

-- the distinct keys of a list are its keys, each of them once
abbrev pub DistinctLaw : Type 0
DistinctLaw = (same : KeyData → KeyData → Bool) → IsEquivalence same → (keys : List KeyData)
    → AreDistinct same keys (distinct same keys)

-- the rows at the places of a group are those of its key, in order
abbrev pub GroupLaw : Type 0
GroupLaw = (same : KeyData → KeyData → Bool) → IsEquivalence same
    → (key : Datum → KeyData) (rows : List Datum) (j : ℕ) (own : KeyData)
    → slice_get (distinct same (map key rows)) j ≡ Some own
    → picked rows (places_of j (groups same (map key rows))) ≡ filter (λ r. same own (key r)) rows

-- the rows at the places of a bucket are the rows whose bucket it is, in order
abbrev pub BucketLaw : Type 0
BucketLaw = (bucket : Datum → ℕ) (rows : List Datum) (j : ℕ)
    → picked rows (places_of j (map bucket rows)) ≡ filter (λ r. bucket r == j) rows

-- a split has the places of each number below its bound, which are places in the list
pub record IsSplit (n : ℕ) (numbers : List ℕ) : Type 0 where
  pub count : length (split_places n numbers) ≡ n
  pub each : (j : ℕ) → j < n → slice_get (split_places n numbers) j ≡ Some (places_of j numbers)
  pub within : All (λ place. place < length numbers) (concat (split_places n numbers))

-- what a split has
abbrev pub SplitLaw : Type 0
SplitLaw = (n : ℕ) (numbers : List ℕ) → IsSplit n numbers

-- a range of the rows at some places is the rows at that range of the places
abbrev pub RangeLaw : Type 0
RangeLaw = (rows : List Datum) (places : List ℕ) (from to : ℕ) → ArePlaces rows places
    → slice_range (picked rows places) from to ≡ picked rows (slice_range places from to)
