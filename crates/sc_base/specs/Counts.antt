-- Counts of what went wrong outside, which never fall.
use Rattle.std.specs.Prelude.{ℕ, ◌≡◌, ◌<◌, ◌⊎◌, ◌^◌, ◌+◌, ◌-◌, min}

-- A count rose. One that stands at its type's last value counts as risen.
abbrev pub Rose : ℕ → ℕ → Type 0
Rose before after = (before < after) ⊎ (after ≡ 2 ^ 64 - 1)

-- one more, where a count stands still at its type's last value
abbrev pub counted : ℕ → ℕ
counted count = min (count + 1) (2 ^ 64 - 1)
