-- Items put together by group, one after another.
use Rattle.std.specs.Prelude.{ℕ, List, [], ◌∷◌, ◌++◌, Option, Some, None, Ok, Err, slice_get, slice_set}
use Rattle.sc_expr.specs.ExprData.{ExprData}
use Rattle.sc_expr.specs.Heads.{Outcome, first_of, second_of}
use Rattle.sc_expr.specs.Meaning.{two_values, value_of_expr}
use Rattle.sc_lineage.specs.Keyed.{Side, side_then}
use Rattle.sc_value.specs.Datum.{Datum, pair}
use Rattle.sc_combine.specs.declared.combining.Taken.{Taken}
use Rattle.sc_combine.specs.declared.combining.Taken.TheVariants.{Values, Rows}

-- a value beside the key of a row, unless it raises
abbrev pub beside_key : Datum → Outcome → Outcome
beside_key row (Ok v) = Ok (pair (first_of row) v)
beside_key row (Err r) = Err r

-- what a value gives with the next one, or a row with the next one under its key
abbrev pub step_of : Taken → ExprData → Datum → Datum → Outcome
step_of Values e a b = value_of_expr (two_values a b) e
step_of Rows e a b = beside_key a (value_of_expr (two_values (second_of a) (second_of b)) e)

-- items with another one at a place, unless it raises
abbrev pub placed : List Datum → ℕ → Outcome → Side
placed kept n (Ok d) = Ok (slice_set kept n d)
placed kept n (Err r) = Err r

-- items with one more: behind them, or else in the place of the one that is there, by a step of the
-- two
abbrev pub put_beside : (Datum → Datum → Outcome) → List Datum → ℕ → Datum → Option Datum → Side
put_beside step kept n item None = Ok (kept ++ item ∷ [])
put_beside step kept n item (Some d) = placed kept n (step d item)

-- the items of groups with one more, whose group has a number
abbrev pub put_at : (Datum → Datum → Outcome) → List Datum → ℕ → Datum → Side
put_at step kept n item = put_beside step kept n item (slice_get kept n)

-- items put together by the numbers of their groups, behind those that were; the first raise ends
-- it
abbrev pub folded_by : (Datum → Datum → Outcome) → List Datum → List ℕ → List Datum → Side
folded_by step kept [] items = Ok kept
folded_by step kept (n ∷ ns) [] = Ok kept
folded_by step kept (n ∷ ns) (item ∷ items) =
    side_then (λ more. folded_by step more ns items) (put_at step kept n item)
