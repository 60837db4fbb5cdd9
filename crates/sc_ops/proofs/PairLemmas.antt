-- How many items lists have.
use Rattle.std.proofs.Common.{◌≡◌, ◌∙◌, ℕ, ◌-◌, List, [], ◌∷◌, length, map, refl, ap, sym}
use Rattle.std.proofs.lemmas.List.Elements.{All-head, All-tail}
use Rattle.std.specs.List.{All, slice_range}
use Rattle.sc_value.specs.Datum.{Datum, items_of, list_of}
use Rattle.sc_value.specs.declared.texts.Span.{Span}
use Rattle.sc_value.proofs.SpanLemmas.{length-slice_range}
use Rattle.sc_columns.specs.Columns.{group_at}
use Rattle.sc_columns.specs.Parts.{AreLists, IsRange}
use Rattle.sc_columns.specs.declared.views.Lists.{Lists}
use Rattle.sc_ops.specs.Given.{item_count}

pub list_of-items_of : (ds : List Datum) → list_of (items_of ds) ≡ ds
list_of-items_of [] = refl
list_of-items_of (d ∷ ds) = ap (λ es. d ∷ es) (list_of-items_of ds)

-- how many items lie in a range
abbrev pub span_len : Span → ℕ
span_len span = span.to - span.from

counts_of : (items : List Datum) (spans : List Span) → All (IsRange (length items)) spans
    → map span_len spans ≡ map item_count (map (group_at items) spans)
counts_of items [] ranges = refl
counts_of items (span ∷ spans) ranges =
    let range = All-head (IsRange (length items)) span spans ranges in
    let here : span_len span ≡ item_count (group_at items span) =
    sym (ap length (list_of-items_of (slice_range items span.from span.to))
    ∙ length-slice_range items span.from span.to range.within) in
    ap (λ n. n ∷ map span_len spans) here
    ∙ ap (λ ns. item_count (group_at items span) ∷ ns)
    (counts_of items spans (All-tail (IsRange (length items)) span spans ranges))

-- how many items each of some lists has
pub list_counts : (rows : List Datum) (lists : Lists) → AreLists rows lists
    → map span_len lists.spans ≡ map item_count rows
list_counts rows lists are =
    counts_of lists.items lists.spans are.ranges ∙ ap (map item_count) (sym are.are)
