-- Even slices of a list.
use Rattle.std.specs.Prelude.{ℕ, ◌≡◌, ◌+◌, ◌*◌, ◌/◌, ◌<◌, ◌⊎◌, List, length, slice_range}
use Rattle.std.specs.List.{flat_map}
use Rattle.sc_base.specs.Lists.{numbers_below}

-- where slice i of n slices of a length begins, and slice i - 1 ends
abbrev pub slice_start : ℕ → ℕ → ℕ → ℕ
slice_start len n i = i * len / n

-- slice i of n slices of a list
abbrev pub slice_of : {A : Type 0} → List A → ℕ → ℕ → List A
slice_of xs n i = slice_range xs (slice_start (length xs) n i) (slice_start (length xs) n (i + 1))

-- one of the two lengths that n even slices of so many items have
abbrev pub IsEvenLength : ℕ → ℕ → ℕ → Type 0
IsEvenLength len n count = (count ≡ len / n) ⊎ (count ≡ len / n + 1)

-- n slices of a list are the list, one behind the other, and their lengths differ by one at most
pub record AreEvenSlices {A : Type 0} (xs : List A) (n : ℕ) : Type 0 where
  pub whole : flat_map (slice_of xs n) (numbers_below n) ≡ xs
  pub begins : slice_start (length xs) n 0 ≡ 0
  pub ends : slice_start (length xs) n n ≡ length xs
  pub even : (i : ℕ) → i < n → IsEvenLength (length xs) n (length (slice_of xs n i))
