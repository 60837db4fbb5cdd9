-- Streams from the outcomes of rows.
use Rattle.std.specs.Prelude.{◌≡◌, List, [], ◌∷◌, ◌++◌, Option, Some, None, Ok, Err, map}
use Rattle.sc_value.specs.Datum.{Datum}
use Rattle.sc_columns.specs.Columns.{zip_with}
use Rattle.sc_expr.specs.Heads.{Outcome, head_value}
use Rattle.sc_expr.specs.Views.{expr_data_of}
use Rattle.sc_expr.specs.declared.exprs.Head.{Head}
use Rattle.sc_expr.specs.declared.exprs.Raise.{Raise}
use Rattle.sc_lineage.specs.Narrow.{at_row}
use Rattle.sc_lineage.specs.Streams.{ended_stream, with_outcome}
use Rattle.sc_lineage.specs.declared.streams.Stream.{Stream}
use Rattle.sc_batch.specs.declared.by_rows.AtRows.{AtRows}
use Rattle.sc_batch.specs.declared.by_rows.AtRows.TheVariants as at

-- the values of outcomes up to the first raise, whether it is one of theirs or the one at the end
abbrev pub until_raise : List Outcome → Option Raise → Stream
until_raise [] end = ended_stream end
until_raise (o ∷ os) end = with_outcome (λ v. v ∷ []) o (until_raise os end)

-- a head at one value
abbrev pub of_one : Head → Datum → Outcome
of_one h d = head_value h (d ∷ [])

-- a head at two values
abbrev pub of_two : Head → Datum → Datum → Outcome
of_two h d e = head_value h (d ∷ e ∷ [])

-- the outcomes of what is evaluated at each row
abbrev pub outcomes_at : AtRows → List Outcome
outcomes_at (at.Expr expr rows) = map (at_row (expr_data_of expr.now)) rows.now
outcomes_at (at.One head rows) = map (of_one head) rows.now
outcomes_at (at.Two head first second) = zip_with (of_two head) first.now second.now

-- behind some rows an outcome was added: its value as one more row, or nothing, and its raise told
abbrev pub AddsOutcome : List Datum → List Datum → Option Raise → Outcome → Type 0
AddsOutcome before after raised (Ok d) = (after ≡ before ++ d ∷ []) × (raised ≡ None)
AddsOutcome before after raised (Err r) = (after ≡ before) × (raised ≡ Some r)
