-- Places at ranges of all places.
use Rattle.std.specs.Prelude.{ℕ, List, slice_range}
use Rattle.std.specs.List.{concat}
use Rattle.sc_value.specs.declared.texts.Span.{Span}

-- the places at a range of all of them
abbrev pub span_places : List (List ℕ) → Span → List ℕ
span_places places span = slice_range (concat places) span.from span.to
