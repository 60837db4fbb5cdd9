-- Lengths, sums and items of lists.
use Rattle.std.specs.Prelude.{ℕ, ℤ, pos, negsuc, ◌+◌, ◌-◌, List, Option, Some, None, length, map, nat_lt, slice_range, if◌then◌else◌}
use Rattle.sc_value.specs.Datum.{number}
use Rattle.sc_value.specs.Words.{words_of}
use Rattle.sc_value.specs.declared.texts.Span.{Span}
use Rattle.sc_expr.specs.Heads.{sum_onto}

-- how many words a text has
abbrev pub count_of_words : List ℕ → ℤ
count_of_words t = pos (length (words_of t))

-- how many items a range has
abbrev pub span_len : Span → ℤ
span_len s = pos (s.to - s.from)

-- the sum of numbers, wrapping at 64 bits
abbrev pub sum_of : List ℤ → ℤ
sum_of ns = sum_onto (pos 0) (map number ns)

-- the sum of the numbers of a range
abbrev pub span_sum : List ℤ → Span → ℤ
span_sum ns s = sum_of (slice_range ns s.from s.to)

-- where an item of a range lies, counted from the range's first, if it has so many
abbrev pub place_in : Span → ℤ → Option ℕ
place_in s (pos k) = if nat_lt k (s.to - s.from) then Some (s.from + k) else None
place_in s (negsuc k) = None
