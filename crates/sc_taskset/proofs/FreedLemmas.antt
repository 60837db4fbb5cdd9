-- A row that may be handed out now, put in the place of another.
use Rattle.std.proofs.Common.{◌≡◌, ◌⊎◌, inl, inr, ℕ, ◌<◌, ◌≤◌, true, not, List, length, get_or, set, ap, sym, ◌∙◌, arith}
use Rattle.std.proofs.lemmas.Bool.{cases_eq}
use Rattle.std.proofs.lemmas.Grind.{get_or-set_at}
use Rattle.std.proofs.lemmas.List.{get_or-set_other, length-set}
use Rattle.std.proofs.lemmas.List.Sums.{passes_at_first, prefix_len-le-length}
use Rattle.std.specs.List.{position_or_len}
use Rattle.sc_taskset.specs.Marks.{is_pending_row}
use Rattle.sc_taskset.specs.declared.rows.Row.{Row}
use Rattle.sc_taskset.proofs.TableLemmas.{first_is, none_below}

-- the first pending row, where one was put that is pending if the one in its place was
pub first_freed : (rows : List Row) (place before after : ℕ) (row : Row) → place < length rows
    → before ≡ position_or_len is_pending_row rows
    → (is_pending_row (get_or rows place row) ≡ true → is_pending_row row ≡ true)
    → after ≤ before → (is_pending_row row ≡ true → after ≤ place)
    → (after ≡ before) ⊎ ((after ≡ place) × (is_pending_row row ≡ true))
    → after ≡ position_or_len is_pending_row (set rows place row)
first_freed rows place before after row l first freed le here one =
    first_is is_pending_row (set rows place row) after
    (omega (
      arith,
      le,
      first,
      length-set rows place row,
      prefix_len-le-length (λ r. not (is_pending_row r)) rows,
    ))
    (none_below rows place after row (omega (arith, le, first)) here)
    (λ d m. by d (omega (arith, m, length-set rows place row)) one)
  where
    kept : (d : Row) → after < length rows → after ≡ before
        → (after ≡ place) ⊎ (after ≡ place → ⊥)
        → is_pending_row (get_or (set rows place row) after d) ≡ true
    kept d m e (inl at) =
        let was : is_pending_row (get_or rows place row) ≡ true =
        ap (λ i. is_pending_row (get_or rows i row)) (sym at ∙ e ∙ first)
        ∙ passes_at_first is_pending_row rows row (omega (arith, m, e, first)) in
        rw (get_or-set_at rows place after row d at l) (freed was)
    kept d m e (inr apart) =
        rw (get_or-set_other rows place after row d apart)
        (ap (λ i. is_pending_row (get_or rows i d)) (e ∙ first)
        ∙ passes_at_first is_pending_row rows d (omega (arith, m, e, first)))

    by : (d : Row) → after < length rows
        → (after ≡ before) ⊎ ((after ≡ place) × (is_pending_row row ≡ true))
        → is_pending_row (get_or (set rows place row) after d) ≡ true
    by d m (inl e) = kept d m e (cases_eq after place)
    by d m (inr put) = rw (get_or-set_at rows place after row d put.0 l) put.1
