-- Numbers that others are divided by.
use Rattle.std.specs.Prelude.{◌≡◌, ◌<◌, ◌+◌, ◌-◌, ◌/◌, ◌^◌, ℕ, ℤ, pos, negsuc, neg_ℤ}
use Rattle.sc_batch.specs.declared.divisors.Divisor.{Divisor}

-- a number above 1, and 2^64 divided by it, rounded up
pub record IsDivisor (by : Divisor) : Type 0 where
  pub above_one : 1 < by.number
  pub small : by.number < 2 ^ 63
  pub factor_is : by.factor ≡ (2 ^ 64 - 1) / by.number + 1

-- a number of this size, with the sign of another
abbrev pub signed : ℤ → ℕ → ℤ
signed (pos a) size = pos size
signed (negsuc a) size = neg_ℤ (pos size)
