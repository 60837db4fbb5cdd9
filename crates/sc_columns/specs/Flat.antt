-- The items of lists, one list's behind another's.
use Rattle.std.specs.Prelude.{◌≡◌, ◌-◌, List, [], min, ℕ}
use Rattle.std.specs.List.{flat_map, range_with_len}
use Rattle.sc_value.specs.Datum.{Datum, group, list_of}
use Rattle.sc_value.specs.Words.{range_of}
use Rattle.sc_value.specs.declared.texts.Span.{Span}

-- the items of a list; another value has none
abbrev pub items_in : Datum → List Datum
items_in (group ds) = list_of ds
items_in d = []

-- the ranges lie in this one without gaps: of any items, theirs together are its own
abbrev pub IsExtent : List Span → Span → Type 0
IsExtent spans all = (xs : List Datum) → flat_map (range_of xs) spans ≡ range_of xs all

-- the places at a range of so many items
abbrev pub places_of : ℕ → Span → List ℕ
places_of n s = range_with_len s.from (min n s.to - s.from)
