-- How much is counted.
use Rattle.std.specs.Prelude.{ℕ, ◌^◌, ◌-◌}

-- the most rows, items or bytes that one list of places counts, since a place has 32 bits
abbrev pub count_limit : ℕ
count_limit = 2 ^ 32 - 1
