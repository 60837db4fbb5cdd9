-- Rows put together under their keys are the left folds of the values of each key.
use Rattle.std.proofs.Common.{◌≡◌, ◌∙◌, ℕ, zero, suc, ◌<◌, Bool, true, false, cond, not, List, [], ◌∷◌, Option, Some, None, Ok, Err, length, map, filter, refl, ap, ap₂, sym, arith}
use Rattle.std.proofs.lemmas.Option.{none-some, same_Some}
use Rattle.std.proofs.lemmas.List.Elements.{recursion_from_All}
use Rattle.std.specs.List.{AllByRecursion}
use Rattle.sc_value.specs.Datum.{Datum, pair}
use Rattle.sc_expr.specs.ExprData.{ExprData}
use Rattle.sc_expr.specs.Heads.{Outcome, first_of, second_of}
use Rattle.sc_expr.specs.Meaning.{two_values, value_of_expr}
use Rattle.sc_lineage.specs.Actions.{fold_from, folded}
use Rattle.sc_lineage.specs.Keyed.{Side, combined, combined_behind, key_of, leaders, put_together, same_key, side_then, values_under, with_value}
use Rattle.sc_laws.specs.Combines.{CombineLaw, IsPair, folded_values, paired_with, put_under}
use Rattle.sc_laws.proofs.EachLemmas.{each_filter}
use Rattle.sc_laws.proofs.FilterLemmas.{filter_length, is_other, leaders_filtered, map_filtered, not_under, other_by_key, same_laws, under_other}

-- the rows of a side, where nothing raised
abbrev rows_in : Side → Option (List Datum)
rows_in (Ok ds) = Some ds
rows_in (Err r) = None

-- an outcome in front of rows, where there are any
abbrev before_rows : Outcome → Option (List Datum) → Option (List Datum)
before_rows (Err r) rest = None
before_rows (Ok d) None = None
before_rows (Ok d) (Some ds) = Some (d ∷ ds)

-- all outcomes as rows, where none raised
abbrev rows_of : List Outcome → Option (List Datum)
rows_of [] = Some []
rows_of (o ∷ os) = before_rows o (rows_of os)

before_none : (o : Outcome) → None ≡ before_rows o None
before_none (Ok d) = refl
before_none (Err r) = refl

module _ (e : ExprData) where
  -- a row that was kept, with the values under its key that come behind it
  abbrev kept_with : Datum → List Datum → Outcome
  kept_with k rows = paired_with (first_of k) (folded e (second_of k) (values_under k rows))

  -- the rows kept behind it, with the rows under other keys
  abbrev others_kept : Datum → List Datum → List Datum → Option (List Datum)
  others_kept k kept rows = rows_in (combined_behind e kept (filter (is_other k) rows))

  -- the first row kept takes the values under its key, and the others take the other rows
  abbrev Splits : List Datum → Type 0
  Splits rows =
      (k : Datum) (kept : List Datum) → IsPair k
      → rows_in (combined_behind e (k ∷ kept) rows)
      ≡ before_rows (kept_with k rows) (others_kept k kept rows)

  -- a row under its key
  split_same : (k : Datum) (kept rows : List Datum) (o : Outcome) → Splits rows
      → rows_in (side_then (λ more. combined_behind e more rows) (with_value k kept o))
      ≡ before_rows
      (paired_with (first_of k) (fold_from (λ c. folded e c (values_under k rows)) o))
      (others_kept k kept rows)
  split_same k kept rows (Ok v) rest = rest (pair (first_of k) v) kept refl
  split_same k kept rows (Err r) rest = refl

  -- a row under another key
  split_other : (k : Datum) (rows : List Datum) (side : Side) → IsPair k → Splits rows
      → rows_in (side_then (λ more. combined_behind e more rows)
      (side_then (λ more. Ok (k ∷ more)) side))
      ≡ before_rows (kept_with k rows)
      (rows_in (side_then (λ more. combined_behind e more (filter (is_other k) rows)) side))
  split_other k rows (Ok more) is rest = rest k more is
  split_other k rows (Err r) is rest = before_none (kept_with k rows)

  split_by : (b : Bool) (k row : Datum) (kept rows : List Datum) → IsPair k → Splits rows
      → rows_in (side_then (λ more. combined_behind e more rows)
      (cond b
      (with_value k kept (value_of_expr (two_values (second_of k) (second_of row)) e))
      (side_then (λ more. Ok (k ∷ more)) (put_together e kept row))))
      ≡ before_rows
      (paired_with (first_of k) (folded e (second_of k)
      (map second_of (cond b (row ∷ filter (same_key k) rows) (filter (same_key k) rows)))))
      (rows_in (combined_behind e kept
      (cond (not b) (row ∷ filter (is_other k) rows) (filter (is_other k) rows))))
  split_by true k row kept rows is rest =
      split_same k kept rows (value_of_expr (two_values (second_of k) (second_of row)) e) rest
  split_by false k row kept rows is rest =
      split_other k rows (put_together e kept row) is rest

  splits : (rows : List Datum) → Splits rows
  splits [] k kept is = ap (λ (d : Datum). Some (d ∷ kept)) is
  splits (row ∷ rows) k kept is = split_by (same_key k row) k row kept rows is (splits rows)

  -- the first row leads, with the values under its key
  first_leads : (row : Datum) (rows : List Datum)
      → kept_with row rows ≡ put_under e (row ∷ rows) row
  first_leads row rows =
      sym (ap (λ (b : Bool). paired_with (first_of row) (folded_values e
      (map second_of (cond b (row ∷ filter (same_key row) rows) (filter (same_key row) rows)))))
      (same_laws.refl (key_of row)))

  -- another leader has the same values without the rows under the first key
  others_lead : (row : Datum) (rows : List Datum) (leader : Datum) → is_other row leader ≡ true
      → put_under e (filter (is_other row) rows) leader ≡ put_under e (row ∷ rows) leader
  others_lead row rows leader other =
      let F : List Datum → Outcome =
      λ ds. paired_with (first_of leader) (folded_values e (map second_of ds)) in
      ap F (under_other row leader rows other)
      ∙ sym (ap (λ (b : Bool). F (cond b (row ∷ filter (same_key leader) rows)
      (filter (same_key leader) rows))) (not_under row leader other))

  -- the leaders of rows, each with its fold
  abbrev led : List Datum → List Outcome
  led rows = map (put_under e rows) (leaders rows)

  led_step : (row : Datum) (rows : List Datum)
      → led (filter (is_other row) rows)
      ≡ map (put_under e (row ∷ rows)) (filter (is_other row) (leaders rows))
  led_step row rows =
      ap (map (put_under e (filter (is_other row) rows)))
      (leaders_filtered (is_other row) (other_by_key row) rows)
      ∙ map_filtered (put_under e (filter (is_other row) rows)) (put_under e (row ∷ rows))
      (is_other row) (leaders rows) (others_lead row rows)

  led_below : (fuel : ℕ) (rows : List Datum) → length rows < fuel → AllByRecursion IsPair rows
      → rows_in (combined e rows) ≡ rows_of (led rows)
  led_below zero rows short pairs = absurd (omega arith)
  led_below (suc fuel) [] short pairs = refl
  led_below (suc fuel) (row ∷ rows) short pairs =
      let fewer = filter_length (is_other row) rows in
      let rest = led_below fuel (filter (is_other row) rows) (omega (arith, fewer, short))
      (each_filter IsPair (is_other row) rows pairs.1) in
      splits rows row [] pairs.0
      ∙ ap₂ before_rows (first_leads row rows) (rest ∙ ap rows_of (led_step row rows))

-- what rows there are
side_from : (side : Side) (made : List Datum) → rows_in side ≡ Some made → side ≡ Ok made
side_from (Ok ds) made is = ap Ok (same_Some ds made is)
side_from (Err r) made is = absurd (none-some made is)

-- rows as outcomes
abbrev given : List Datum → List Outcome
given ds = map Ok ds

outcome_from : (o : Outcome) (os : List Outcome) (made : List Datum) (rest : Option (List Datum))
    → rows_of os ≡ rest → before_rows o rest ≡ Some made
    → ((ds : List Datum) → rows_of os ≡ Some ds → os ≡ given ds)
    → o ∷ os ≡ given made
outcome_from (Err r) os made rest rest_is whole later = absurd (none-some made whole)
outcome_from (Ok d) os made None rest_is whole later = absurd (none-some made whole)
outcome_from (Ok d) os made (Some ds) rest_is whole later =
    ap (λ (more : List Outcome). Ok d ∷ more) (later ds rest_is)
    ∙ ap given (same_Some (d ∷ ds) made whole)

outcomes_from : (os : List Outcome) (made : List Datum) → rows_of os ≡ Some made → os ≡ given made
outcomes_from [] made is = ap given (same_Some [] made is)
outcomes_from (o ∷ os) made is =
    outcome_from o os made (rows_of os) refl is (λ ds ds_are. outcomes_from os ds ds_are)

rows_of-given : (made : List Datum) → rows_of (given made) ≡ Some made
rows_of-given [] = refl
rows_of-given (d ∷ made) = ap (before_rows (Ok d)) (rows_of-given made)

pub combines : CombineLaw
combines e rows made pairs =
    let is = led_below e (suc (length rows)) rows (omega arith)
    (recursion_from_All IsPair rows pairs) in (
      λ combined_is. outcomes_from (led e rows) made (sym is ∙ ap rows_in combined_is),
      λ led_is. side_from (combined e rows) made (is ∙ ap rows_of led_is ∙ rows_of-given made),
    )
