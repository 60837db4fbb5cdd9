-- Flags of numbers, in words of 64.
use Rattle.std.specs.Prelude.{ℕ, ◌≡◌, ◌==◌, ◌*◌, ◌/◌, ◌%◌, ◌^◌, ◌<◌, ◌≤◌, Bool, false, List, length, slice_index}
use Rattle.std.specs.Int.{bit_at}
use Rattle.sc_base.specs.Lists.{at_or}

-- the flag of a number is set
abbrev pub is_set : List ℕ → ℕ → Bool
is_set words k = bit_at (slice_index words (k / 64)) (k % 64) == 1

-- words hold these flags, and none is set past them
abbrev pub HoldFlags : List ℕ → List Bool → Type 0
HoldFlags words flags = (k : ℕ) → is_set words k ≡ at_or flags k false

-- words have room for so many flags, and their places are numbers of 64 bits
pub record HaveRoom (words : List ℕ) (many : ℕ) : Type 0 where
  pub room : many ≤ 64 * length words
  pub small : 64 * length words < 2 ^ 64

-- flags with the one at a place set or cleared
pub record IsPut (old new : List ℕ) (place : ℕ) (flag : Bool) : Type 0 where
  pub here : is_set new place ≡ flag
  pub others : (k : ℕ) → (k ≡ place → ⊥) → is_set new k ≡ is_set old k
  pub len : length new ≡ length old

-- the lowest flag that is set in a word
pub record IsLowest (word place : ℕ) : Type 0 where
  pub within : place < 64
  pub here : bit_at word place ≡ 1
  pub none : (i : ℕ) → i < place → bit_at word i ≡ 0
