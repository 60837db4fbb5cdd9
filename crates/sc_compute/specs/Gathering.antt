-- What the results of an action give while they come one after another.
use Rattle.std.specs.Prelude.{ℕ, ◌≡◌, List, length}
use Rattle.sc_value.specs.Datum.{Datum}
use Rattle.sc_value.specs.Printing.{printed_lines}
use Rattle.sc_expr.specs.Views.{expr_data_of}
use Rattle.sc_lineage.specs.ScriptData.{ActionData, collect_action, count_action, reduce_action, save_action}
use Rattle.sc_compute.specs.Results.{HasRows}
use Rattle.sc_compute.specs.declared.gathered.Gathered.{Gathered}
use Rattle.sc_compute.specs.declared.gathered.Gathered.TheVariants.{Lines, Count, Rows, Saves}
use Rattle.sc_compute.specs.declared.results.TaskResult.{TaskResult}

-- what was gathered for an action, from results with these rows
abbrev pub IsGathered : ActionData → Gathered → List Datum → Type 0
IsGathered (collect_action node) (Lines bytes) rows = bytes.items ≡ printed_lines rows
IsGathered (count_action node) (Count n) rows = n ≡ length rows
IsGathered (reduce_action node e) (Rows expr all) rows =
    (e ≡ expr_data_of expr.now) × (all ≡ rows)
IsGathered (save_action node dir) Saves rows = Unit {0}
IsGathered action gathered rows = ⊥

-- how many rows were counted
abbrev pub rows_counted : Gathered → ℕ
rows_counted (Count n) = n
rows_counted gathered = 0

-- a result has what is gathered of it
abbrev pub Takes : Gathered → TaskResult → Type 0
Takes (Lines bytes) result = HasRows result
Takes (Count n) result = Unit {0}
Takes (Rows expr all) result = HasRows result
Takes Saves result = Unit {0}
