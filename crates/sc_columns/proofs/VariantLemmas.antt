-- The rows of a column of each form, and what a value of each form stands for.
use Rattle.std.proofs.Common.{◌≡◌, ◌∙◌, ℕ, ℤ, Bool, List, ◌++◌, map, ap, sym, Global, replicate}
use Rattle.std.specs.declared.sync.Arc.{Arc}
use Rattle.std.specs.Arc.{arc_value}
use Rattle.sc_value.specs.Datum.{Datum, number, truth, text, pair}
use Rattle.sc_value.specs.Views.{datum_of, datum_step}
use Rattle.sc_value.specs.declared.texts.Span.{Span}
use Rattle.sc_value.specs.declared.values.Value.{Value}
use Rattle.sc_value.specs.declared.values.Value.TheFolds.{fold-roll-Value}
use Rattle.sc_value.specs.declared.values.Value.TheOpen as value_layers
use Rattle.sc_value.specs.declared.values.Value.TheVariants as values
use Rattle.sc_value.specs.declared.values.Value.TheVariants.{rolls-Int, rolls-Bool, rolls-Text}
use Rattle.sc_columns.specs.Columns.{group_at, rows_in, rows_step, zip_with}
use Rattle.sc_columns.specs.declared.columns.Column.{Column}
use Rattle.sc_columns.specs.declared.columns.Column.TheFolds.{fold-roll-Column}
use Rattle.sc_columns.specs.declared.columns.Column.TheOpen as layers
use Rattle.sc_columns.specs.declared.columns.Column.TheVariants as variants
use Rattle.sc_columns.specs.declared.columns.Column.TheVariants.{rolls-Ints, rolls-Bools, rolls-Texts, rolls-Pairs, rolls-Lists, rolls-Values, rolls-Same, rolls-Chain}
use Rattle.sc_columns.specs.declared.columns.Column.TheViews as views

module _ (c : Column) where
  pub at-Ints : (v : List ℤ) → c ≡ variants.Ints v → rows_in c ≡ map number v
  at-Ints v is =
      ap rows_in (is ∙ sym (rolls-Ints v))
      ∙ fold-roll-Column (List Datum) rows_step (layers.Ints v)

  pub at-Bools : (v : List Bool) → c ≡ variants.Bools v → rows_in c ≡ map truth v
  at-Bools v is =
      ap rows_in (is ∙ sym (rolls-Bools v))
      ∙ fold-roll-Column (List Datum) rows_step (layers.Bools v)

  pub at-Texts : (t : List (List ℕ)) → c ≡ variants.Texts t → rows_in c ≡ map text t
  at-Texts t is =
      ap rows_in (is ∙ sym (rolls-Texts t))
      ∙ fold-roll-Column (List Datum) rows_step (layers.Texts t)

  pub at-Pairs : (a b : Arc Column Global) → c ≡ views.Pairs a b
      → rows_in c ≡ zip_with pair (rows_in (arc_value a)) (rows_in (arc_value b))
  at-Pairs a b is =
      ap rows_in (is ∙ sym (rolls-Pairs a b))
      ∙ fold-roll-Column (List Datum) rows_step (layers.Pairs a b)

  pub at-Lists : (spans : List Span) (items : Arc Column Global) → c ≡ views.Lists spans items
      → rows_in c ≡ map (group_at (rows_in (arc_value items))) spans
  at-Lists spans items is =
      ap rows_in (is ∙ sym (rolls-Lists spans items))
      ∙ fold-roll-Column (List Datum) rows_step (layers.Lists spans items)

  pub at-Values : (v : List Value) → c ≡ variants.Values v → rows_in c ≡ map datum_of v
  at-Values v is =
      ap rows_in (is ∙ sym (rolls-Values v))
      ∙ fold-roll-Column (List Datum) rows_step (layers.Values v)

  pub at-Same : (v : Arc Value Global) (n : ℕ) → c ≡ variants.Same v n
      → rows_in c ≡ replicate n (datum_of (arc_value v))
  at-Same v n is =
      ap rows_in (is ∙ sym (rolls-Same v n))
      ∙ fold-roll-Column (List Datum) rows_step (layers.Same v n)

  pub at-Chain : (a b : Arc Column Global) → c ≡ views.Chain a b
      → rows_in c ≡ rows_in (arc_value a) ++ rows_in (arc_value b)
  at-Chain a b is =
      ap rows_in (is ∙ sym (rolls-Chain a b))
      ∙ fold-roll-Column (List Datum) rows_step (layers.Chain a b)

pub datum_of-Int : (n : ℤ) → datum_of (values.Int n) ≡ number n
datum_of-Int n =
    ap datum_of (sym (rolls-Int n)) ∙ fold-roll-Value Datum datum_step (value_layers.Int n)

pub datum_of-Bool : (b : Bool) → datum_of (values.Bool b) ≡ truth b
datum_of-Bool b =
    ap datum_of (sym (rolls-Bool b)) ∙ fold-roll-Value Datum datum_step (value_layers.Bool b)

pub datum_of-Text : (t : List ℕ) → datum_of (values.Text t) ≡ text t
datum_of-Text t =
    ap datum_of (sym (rolls-Text t)) ∙ fold-roll-Value Datum datum_step (value_layers.Text t)
