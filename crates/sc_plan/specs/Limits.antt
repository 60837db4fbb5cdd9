-- The limits of fault plans, each in one place.
use Rattle.std.specs.Prelude.{ℕ}

-- the most bytes of a plan, and of one of its lines
abbrev pub plan_limit : ℕ
plan_limit = 65536

abbrev pub line_limit : ℕ
line_limit = 4096

-- the most lines of a plan, but for those that are skipped
abbrev pub lines_limit : ℕ
lines_limit = 256

-- the largest number of a line
abbrev pub number_limit : ℕ
number_limit = 1000000
