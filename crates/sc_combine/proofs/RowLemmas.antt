-- Rows put together under their keys are rows put together by the numbers of their groups.
use Rattle.std.proofs.Common.{◌≡◌, ◌∙◌, ℕ, zero, suc, ◌+◌, ◌<◌, Bool, true, false, cond, not, List, [], ◌∷◌, ◌++◌, Option, Some, None, Ok, Err, length, map, refl, ap, sym, arith, append_assoc}
use Rattle.std.proofs.lemmas.List.{length-map, map-append}
use Rattle.std.specs.List.{slice_get}
use Rattle.sc_expr.specs.ExprData.{ExprData}
use Rattle.sc_expr.specs.Heads.{Outcome, first_of, second_of}
use Rattle.sc_expr.specs.Meaning.{two_values, value_of_expr}
use Rattle.sc_keys.specs.Groups.{place_in}
use Rattle.sc_keys.proofs.GroupLemmas.{place_below}
use Rattle.sc_lineage.specs.Keyed.{Side, combined, combined_behind, key_of, leaders, put_together, same_key, side_then, with_value}
use Rattle.sc_part.specs.Bounds.{is_same_key}
use Rattle.sc_value.specs.Datum.{Datum, pair}
use Rattle.sc_value.specs.Keys.{KeyData}
use Rattle.sc_combine.specs.Combining.{beside_key, folded_by, placed, put_at, put_beside, step_of}
use Rattle.sc_combine.specs.Groupings.{group_numbers}
use Rattle.sc_combine.specs.declared.combining.Taken.TheVariants.{Rows}
use Rattle.sc_combine.proofs.FoldLemmas.{put_new}
use Rattle.sc_combine.proofs.LeaderLemmas.{is_known, leaders_new, new_rows, number_known, number_new, numbers_of, place_none, same_laws}

-- a function of the rows of a side
abbrev pub mapped : (List Datum → List Datum) → Side → Side
mapped f side = side_then (λ ds. Ok (f ds)) side

mapped_same : (side : Side) (f g : List Datum → Side)
    → ((ds : List Datum) → side ≡ Ok ds → f ds ≡ g ds) → side_then f side ≡ side_then g side
mapped_same (Ok ds) f g same = same ds refl
mapped_same (Err r) f g same = refl

-- items in front of others
pub put_behind : (step : Datum → Datum → Outcome) (d : Datum) (kept : List Datum) (n : ℕ)
    (item : Datum)
    → put_at step (d ∷ kept) (suc n) item ≡ mapped (λ ds. d ∷ ds) (put_at step kept n item)
put_behind step d kept n item = by (slice_get kept n)
  where
    at : (o : Outcome) → placed (d ∷ kept) (suc n) o ≡ mapped (λ ds. d ∷ ds) (placed kept n o)
    at (Ok v) = refl
    at (Err r) = refl

    by : (o : Option Datum) → put_beside step (d ∷ kept) (suc n) item o
        ≡ mapped (λ ds. d ∷ ds) (put_beside step kept n item o)
    by None = refl
    by (Some x) = at (step x item)

module _ (e : ExprData) where
  abbrev pub by_row : Datum → Datum → Outcome
  by_row = step_of Rows e

  first_placed : (kept : Datum) (rows : List Datum) (o : Outcome)
      → with_value kept rows o ≡ placed (kept ∷ rows) 0 (beside_key kept o)
  first_placed kept rows (Ok v) = refl
  first_placed kept rows (Err r) = refl

  -- a row is put where its key stands
  put_by : (b : Bool) (kept : Datum) (rows : List Datum) (row : Datum)
      → put_together e rows row ≡ put_at by_row rows (place_in is_same_key (map key_of rows)
      (key_of row)) row
      → cond b
      (with_value kept rows (value_of_expr (two_values (second_of kept) (second_of row)) e))
      (side_then (λ more. Ok (kept ∷ more)) (put_together e rows row))
      ≡ put_at by_row (kept ∷ rows)
      (cond (not b) (1 + place_in is_same_key (map key_of rows) (key_of row)) 0) row
  put_by true kept rows row rest =
      first_placed kept rows (value_of_expr (two_values (second_of kept) (second_of row)) e)
  put_by false kept rows row rest =
      let n = place_in is_same_key (map key_of rows) (key_of row) in
      let s : 1 + n ≡ suc n = omega arith in
      ap (mapped (λ ds. kept ∷ ds)) rest ∙ sym (put_behind by_row kept rows n row)
      ∙ ap (λ m. put_at by_row (kept ∷ rows) m row) (sym s)

  put_is : (kept : List Datum) (row : Datum)
      → put_together e kept row
      ≡ put_at by_row kept (place_in is_same_key (map key_of kept) (key_of row)) row
  put_is [] row = refl
  put_is (k ∷ kept) row =
      put_by (same_key k row) k kept row (put_is kept row)
      ∙ ap (λ b. put_at by_row (k ∷ kept)
      (cond (not b) (1 + place_in is_same_key (map key_of kept) (key_of row)) 0) row)
      (same_laws.symm (key_of k) (key_of row))

  -- a row under a known key leaves the keys
  keeps_first : (k row : Datum) (kept more : List Datum) (o : Outcome)
      → placed (k ∷ kept) 0 (beside_key k o) ≡ Ok more → map key_of more ≡ map key_of (k ∷ kept)
  keeps_first k row kept more (Ok v) is =
      let e : pair (first_of k) v ∷ kept ≡ more = cc in sym (ap (map key_of) e)
  keeps_first k row kept more (Err r) is = absurd (cc)

  keeps_rest : (k : Datum) (kept more : List Datum) (side : Side)
      → ((ds : List Datum) → side ≡ Ok ds → map key_of ds ≡ map key_of kept)
      → mapped (λ ds. k ∷ ds) side ≡ Ok more → map key_of more ≡ map key_of (k ∷ kept)
  keeps_rest k kept more (Ok ds) rest is =
      let e : k ∷ ds ≡ more = cc in
      sym (ap (map key_of) e) ∙ ap (λ ks. key_of k ∷ ks) (rest ds refl)
  keeps_rest k kept more (Err r) rest is = absurd (cc)

  put_keeps : (kept more : List Datum) (n : ℕ) (row : Datum) → n < length kept
      → put_at by_row kept n row ≡ Ok more → map key_of more ≡ map key_of kept
  put_keeps [] more n row within is = absurd (omega arith)
  put_keeps (k ∷ kept) more zero row within is =
      keeps_first k row kept more (value_of_expr (two_values (second_of k) (second_of row)) e) is
  put_keeps (k ∷ kept) more (suc n) row within is =
      keeps_rest k kept more (put_at by_row kept n row)
      (λ ds at. put_keeps kept ds n row (omega arith) at)
      (sym (put_behind by_row k kept n row) ∙ is)

  module _ (all : List KeyData) where
    -- what is known so far: the keys of the rows kept, and those that come
    abbrev AreAll : List KeyData → List Datum → Type 0
    AreAll keys rows = all ≡ keys ++ map key_of (new_rows keys rows)

    rows_step : (b : Bool) (kept : List Datum) (row : Datum) (rows : List Datum)
        → is_known (map key_of kept) (key_of row) ≡ b
        → all ≡ map key_of kept ++ map key_of (cond b (new_rows (map key_of kept) rows)
        (row ∷ new_rows (map key_of kept ++ key_of row ∷ []) rows))
        → ((more : List Datum) → AreAll (map key_of more) rows
        → combined_behind e more rows ≡ folded_by by_row more (numbers_of all rows) rows)
        → side_then (λ more. combined_behind e more rows) (put_together e kept row)
        ≡ side_then (λ more. folded_by by_row more (numbers_of all rows) rows)
        (put_at by_row kept (place_in is_same_key all (key_of row)) row)
    rows_step true kept row rows known are rest =
        let keys = map key_of kept in
        let place = number_known all keys row (new_rows keys rows) known are in
        let below = place_below is_same_key same_laws.refl keys (key_of row) known in
        let size = length-map kept key_of in
        let F = λ (ds : List Datum). combined_behind e ds rows in
        let G = λ (ds : List Datum). folded_by by_row ds (numbers_of all rows) rows in
        ap (side_then F) (put_is kept row ∙ ap (λ n. put_at by_row kept n row) (sym place))
        ∙ mapped_same (put_at by_row kept (place_in is_same_key all (key_of row)) row) F G
        (λ ds is.
        let same = put_keeps kept ds (place_in is_same_key all (key_of row)) row
        (omega (arith, place, below, size)) is in
        rest ds (are ∙ ap (λ ks. ks ++ map key_of (new_rows ks rows)) (sym same)))
    rows_step false kept row rows new are rest =
        let keys = map key_of kept in
        let more = keys ++ key_of row ∷ [] in
        let place = number_new all keys row (new_rows more rows) new are in
        let size = length-map kept key_of in
        let behind = kept ++ row ∷ [] in
        let here : place_in is_same_key keys (key_of row) ≡ length keys =
        place_none keys (key_of row) new in
        let put = put_new by_row kept behind (length keys) row (omega (arith, size)) refl in
        let pushed : map key_of behind ≡ more = map-append key_of kept (row ∷ []) in
        ap (side_then (λ ds. combined_behind e ds rows))
        (put_is kept row ∙ ap (λ n. put_at by_row kept n row) here ∙ put)
        ∙ rest behind
        (are ∙ sym (append_assoc keys (key_of row ∷ []) (map key_of (new_rows more rows)))
        ∙ ap (λ ks. ks ++ map key_of (new_rows ks rows)) (sym pushed))
        ∙ sym (ap (side_then (λ ds. folded_by by_row ds (numbers_of all rows) rows))
        (ap (λ n. put_at by_row kept n row) place ∙ put))

    rows_folded : (kept rows : List Datum) → AreAll (map key_of kept) rows
        → combined_behind e kept rows ≡ folded_by by_row kept (numbers_of all rows) rows
    rows_folded kept [] are = refl
    rows_folded kept (row ∷ rows) are =
        rows_step (is_known (map key_of kept) (key_of row)) kept row rows refl are
        (λ more all_are. rows_folded more rows all_are)

  -- rows put together under their keys, row by row
  pub combined_by_rows : (rows : List Datum)
      → combined e rows ≡ folded_by by_row [] (group_numbers rows rows) rows
  combined_by_rows rows =
      rows_folded (map key_of (leaders rows)) [] rows (ap (map key_of) (leaders_new rows))
