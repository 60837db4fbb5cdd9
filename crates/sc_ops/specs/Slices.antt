-- Slices also past the last.
use Rattle.std.specs.Prelude.{ℕ, ◌≡◌, ◌<◌, ◌≤◌, ◌+◌}
use Rattle.sc_input.specs.Slices.{slice_start}

-- from one place to another in a list of this length lies slice p of n; past the last nothing does
pub record AreSliceBounds (len n p from to : ℕ) : Type 0 where
  pub ordered : from ≤ to
  pub within : to ≤ len
  pub start : p < n → from ≡ slice_start len n p
  pub end : p < n → to ≡ slice_start len n (p + 1)
  pub past : n ≤ p → from ≡ to
