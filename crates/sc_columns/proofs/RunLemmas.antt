-- The rows of an open column of each form.
use Rattle.std.proofs.Common.{◌≡◌, ◌∙◌, ℕ, ℤ, Bool, List, [], map, ap, sym, Global, Vec, Box}
use Rattle.std.specs.declared.sync.Arc.{Arc}
use Rattle.std.specs.Arc.{arc_value}
use Rattle.sc_value.specs.Datum.{Datum, number, truth, text, pair}
use Rattle.sc_value.specs.Views.{datum_of}
use Rattle.sc_value.specs.declared.values.Value.{Value}
use Rattle.sc_columns.specs.Columns.{rows_in, zip_with}
use Rattle.sc_columns.specs.Runs.{run_rows, run_step}
use Rattle.sc_columns.specs.declared.columns.Column.{Column}
use Rattle.sc_columns.specs.declared.runs.Run.{Run}
use Rattle.sc_columns.specs.declared.runs.Run.TheFolds.{fold-roll-Run}
use Rattle.sc_columns.specs.declared.runs.Run.TheOpen as layers
use Rattle.sc_columns.specs.declared.runs.Run.TheVariants as variants
use Rattle.sc_columns.specs.declared.runs.Run.TheVariants.{rolls-Bools, rolls-Empty, rolls-Ints, rolls-Lone, rolls-Pairs, rolls-Texts, rolls-Values}
use Rattle.sc_columns.specs.declared.runs.Run.TheViews as views

module _ (o : Run) where
  pub run-Empty : o ≡ variants.Empty → run_rows o ≡ []
  run-Empty is =
      ap run_rows (is ∙ sym rolls-Empty) ∙ fold-roll-Run (List Datum) run_step layers.Empty

  pub run-Lone : (c : Arc Column Global) → o ≡ variants.Lone c → run_rows o ≡ rows_in (arc_value c)
  run-Lone c is =
      ap run_rows (is ∙ sym (rolls-Lone c))
      ∙ fold-roll-Run (List Datum) run_step (layers.Lone c)

  pub run-Ints : (v : Vec ℤ Global) → o ≡ variants.Ints v → run_rows o ≡ map number v.items
  run-Ints v is =
      ap run_rows (is ∙ sym (rolls-Ints v))
      ∙ fold-roll-Run (List Datum) run_step (layers.Ints v)

  pub run-Bools : (v : Vec Bool Global) → o ≡ variants.Bools v → run_rows o ≡ map truth v.items
  run-Bools v is =
      ap run_rows (is ∙ sym (rolls-Bools v))
      ∙ fold-roll-Run (List Datum) run_step (layers.Bools v)

  pub run-Texts : (t : List (List ℕ)) → o ≡ variants.Texts t → run_rows o ≡ map text t
  run-Texts t is =
      ap run_rows (is ∙ sym (rolls-Texts t))
      ∙ fold-roll-Run (List Datum) run_step (layers.Texts t)

  pub run-Pairs : (a b : Box Run Global) → o ≡ views.Pairs a b
      → run_rows o ≡ zip_with pair (run_rows a.value) (run_rows b.value)
  run-Pairs a b is =
      ap run_rows (is ∙ sym (rolls-Pairs a b))
      ∙ fold-roll-Run (List Datum) run_step (layers.Pairs a b)

  pub run-Values : (v : Vec Value Global) → o ≡ variants.Values v
      → run_rows o ≡ map datum_of v.items
  run-Values v is =
      ap run_rows (is ∙ sym (rolls-Values v))
      ∙ fold-roll-Run (List Datum) run_step (layers.Values v)
