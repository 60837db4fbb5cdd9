-- Columns of pairs: their places are places of each half, and they are deeper than it.
use Rattle.std.proofs.Common.{◌≡◌, ◌∙◌, ℕ, suc, ◌+◌, List, ap, subst, sym, Global}
use Rattle.std.specs.Arc.{arc_value}
use Rattle.std.specs.declared.sync.Arc.{Arc}
use Rattle.sc_value.specs.Datum.{pair}
use Rattle.sc_value.specs.Picked.{ArePlaces}
use Rattle.sc_columns.specs.Columns.{rows_in}
use Rattle.sc_columns.specs.declared.columns.Column.{Column, fold-Column}
use Rattle.sc_columns.specs.declared.columns.Column.TheFolds.{fold-roll-Column}
use Rattle.sc_columns.specs.declared.columns.Column.TheOpen as layers
use Rattle.sc_columns.specs.declared.columns.Column.TheOpen.{Column-F}
use Rattle.sc_columns.specs.declared.columns.Column.TheVariants.{rolls-Pairs}
use Rattle.sc_columns.specs.declared.columns.Column.TheViews as views
use Rattle.sc_columns.proofs.PlaceLemmas.{first_places, second_places}
use Rattle.sc_columns.proofs.VariantLemmas.{at-Pairs}

pub first_of_pairs : (c x : Column) (a b : Arc Column Global) (ps : List ℕ) → c ≡ views.Pairs a b
    → x ≡ arc_value a → ArePlaces (rows_in c) ps → ArePlaces (rows_in x) ps
first_of_pairs c x a b ps is at all =
    subst (λ y. ArePlaces (rows_in y) ps) (sym at)
    (first_places pair (rows_in (arc_value a)) (rows_in (arc_value b)) ps
    (subst (λ rows. ArePlaces rows ps) (at-Pairs c a b is) all))

pub second_of_pairs : (c x : Column) (a b : Arc Column Global) (ps : List ℕ) → c ≡ views.Pairs a b
    → x ≡ arc_value b → ArePlaces (rows_in c) ps → ArePlaces (rows_in x) ps
second_of_pairs c x a b ps is at all =
    subst (λ y. ArePlaces (rows_in y) ps) (sym at)
    (second_places pair (rows_in (arc_value a)) (rows_in (arc_value b)) ps
    (subst (λ rows. ArePlaces rows ps) (at-Pairs c a b is) all))

-- how many columns of pairs a layer adds
abbrev pairs_step : Column-F ℕ → ℕ
pairs_step (Column-F.Ints v) = 0
pairs_step (Column-F.Bools v) = 0
pairs_step (Column-F.Texts t) = 0
pairs_step (Column-F.Pairs a b) = suc (arc_value a + arc_value b)
pairs_step (Column-F.Lists spans items) = 0
pairs_step (Column-F.Values v) = 0
pairs_step (Column-F.Same v n) = 0
pairs_step (Column-F.Chain a b) = 0

-- how many columns of pairs a column is made of
abbrev pub pairs_in : Column → ℕ
pairs_in = fold-Column ℕ pairs_step

pub pairs_in-Pairs : (c : Column) (a b : Arc Column Global) → c ≡ views.Pairs a b
    → pairs_in c ≡ suc (pairs_in (arc_value a) + pairs_in (arc_value b))
pairs_in-Pairs c a b is =
    ap pairs_in (is ∙ sym (rolls-Pairs a b)) ∙ fold-roll-Column ℕ pairs_step (layers.Pairs a b)
