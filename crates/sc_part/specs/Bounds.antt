-- The bounds between ranges of keys, and the range of a key.
use Rattle.std.specs.Prelude.{ℕ, ◌+◌, ◌-◌, ◌*◌, ◌/◌, Bool, List, length, map}
use Rattle.std.specs.List.{dedup, filter}
use Rattle.std.specs.Ordering.{is_eq, is_lt}
use Rattle.sc_base.specs.Lists.{numbers_from}
use Rattle.sc_part.specs.Sorts.{sorted}
use Rattle.sc_value.specs.Keys.{KeyData, key_order}
use Rattle.sc_value.specs.Picked.{picked}

-- whether a key is before another one
abbrev pub is_before : KeyData → KeyData → Bool
is_before a b = is_lt (key_order a b)

-- whether two keys are the same
abbrev pub is_same_key : KeyData → KeyData → Bool
is_same_key a b = is_eq (key_order a b)

-- of n parts of m items in a row, the place of the last item of the first i parts: i * m / n
-- rounded up, and one less, since places begin at 0
abbrev pub place_of : ℕ → ℕ → ℕ → ℕ
place_of m n i = (i * m + (n - 1)) / n - 1

-- the places where one of n parts of m items ends and another begins
abbrev pub places_between : ℕ → ℕ → List ℕ
places_between m n = map (place_of m n) (numbers_from 1 (n - 1))

-- of keys in order those at the ends of n parts, but for the end of all
abbrev pub ends_of : List KeyData → ℕ → List KeyData
ends_of keys n = picked (sorted is_before keys) (places_between (length keys) n)

-- the bounds between n ranges of keys: the keys at the ends of n parts, each of them once
abbrev pub bounds_of : List KeyData → ℕ → List KeyData
bounds_of keys n = dedup is_same_key (ends_of keys n)

-- the range of a key: how many bounds are before it
abbrev pub range_of : List KeyData → KeyData → ℕ
range_of bounds key = length (filter (λ b. is_before b key) bounds)
