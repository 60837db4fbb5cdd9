-- The values at ranges of places, as lists.
use Rattle.std.proofs.Common.{◌≡◌, ◌∙◌, ℕ, ◌+◌, ◌<◌, List, [], ◌∷◌, ◌++◌, Some, length, map, take, refl, ap, ap₂, sym, subst}
use Rattle.std.proofs.lemmas.List.{map-append, take_more}
use Rattle.std.proofs.lemmas.Option.{get_or_from_slice_get}
use Rattle.std.specs.List.{concat, slice_get, slice_range}
use Rattle.std.specs.Option.{IfSome}
use Rattle.sc_columns.specs.Columns.{group_at}
use Rattle.sc_columns.proofs.ListLemmas.{there}
use Rattle.sc_expr.specs.Heads.{list_value}
use Rattle.sc_keys.specs.Laws.{RangeLaw}
use Rattle.sc_keys.specs.Splits.{IsRangeOf}
use Rattle.sc_value.specs.Datum.{Datum}
use Rattle.sc_value.specs.Picked.{ArePlaces, picked}
use Rattle.sc_value.specs.declared.texts.Span.{Span}
use Rattle.sc_combine.specs.Spans.{span_places}

-- one range more
pub spans_more : (places : List (List ℕ)) (j : ℕ) (range : ℕ × ℕ) (out after : List Span)
    (span : Span) → j < length places
    → IfSome (slice_get places j) (λ ps. IsRangeOf (concat places) ps range)
    → span.from ≡ range.0 → span.to ≡ range.1 → after ≡ out ++ span ∷ []
    → map (span_places places) out ≡ take j places
    → map (span_places places) after ≡ take (j + 1) places
spans_more places j range out after span within is from to pushed so_far =
    let here = there places j within in
    let ps = here.0 in
    let at : slice_get places j ≡ Some ps = here.1 in
    let of : IsRangeOf (concat places) ps range =
    subst (λ o. IfSome o (λ ps. IsRangeOf (concat places) ps range)) at is in
    ap (map (span_places places)) pushed ∙ map-append (span_places places) out (span ∷ [])
    ∙ ap₂ (λ xs x. xs ++ x ∷ []) so_far
    (ap₂ (slice_range (concat places)) from to ∙ of.are
    ∙ sym (get_or_from_slice_get places j ps ps at))
    ∙ sym (take_more places j ps within)

module _ (law : RangeLaw) (values items : List Datum) (places : List (List ℕ))
    (within : ArePlaces values (concat places)) (are : items ≡ picked values (concat places)) where
  each_list : (spans : List Span)
      → map (group_at items) spans
      ≡ map list_value (map (picked values) (map (span_places places) spans))
  each_list [] = refl
  each_list (span ∷ spans) =
      ap₂ (λ x xs. list_value x ∷ xs)
      (ap (λ ds. slice_range ds span.from span.to) are
      ∙ law values (concat places) span.from span.to within)
      (each_list spans)

  -- the values at each of some places, as lists
  pub lists_are : (spans : List Span) → map (span_places places) spans ≡ places
      → map (group_at items) spans ≡ map list_value (map (picked values) places)
  lists_are spans all = each_list spans ∙ ap (λ ps. map list_value (map (picked values) ps)) all
