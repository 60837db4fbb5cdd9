-- The rows of columns that are still open.
use Rattle.std.specs.Prelude.{Bool, false, List, [], Result, Ok, Err, box_value, map}
use Rattle.std.specs.Arc.{arc_value}
use Rattle.sc_value.specs.Datum.{Datum, number, truth, text, pair}
use Rattle.sc_value.specs.Views.{datum_of}
use Rattle.sc_columns.specs.Columns.{rows_in, zip_with}
use Rattle.sc_columns.specs.declared.runs.Run.{Run, fold-Run}
use Rattle.sc_columns.specs.declared.runs.Run.TheOpen.{Run-F}

-- one layer of an open column, with rows in place of the columns inside
abbrev pub run_step : Run-F (List Datum) → List Datum
run_step Run-F.Empty = []
run_step (Run-F.Lone column) = rows_in (arc_value column)
run_step (Run-F.Ints v) = map number v.items
run_step (Run-F.Bools v) = map truth v.items
run_step (Run-F.Texts run) = map text run
run_step (Run-F.Pairs a b) = zip_with pair (box_value a) (box_value b)
run_step (Run-F.Values v) = map datum_of v.items

-- the rows of an open column
abbrev pub run_rows : Run → List Datum
run_rows = fold-Run (List Datum) run_step

-- whether a call did what it was asked for
abbrev pub is_yes : {E : Type 0} → Result Bool E → Bool
is_yes (Ok done) = done
is_yes (Err e) = false
