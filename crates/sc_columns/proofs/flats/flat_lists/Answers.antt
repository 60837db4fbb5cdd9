use Rattle.std.proofs.Common.{◌∙◌, ap, List, length, subst, sym, ℕ}
use Rattle.std.proofs.lemmas.Result.{IfOk-weaker}
use Rattle.std.specs.List.{flat_map}
use Rattle.sc_value.specs.Picked.{ArePlaces, picked}
use Rattle.sc_value.specs.Words.{range_of}
use Rattle.sc_columns.specs.Columns.{rows_in, shared_rows}
use Rattle.sc_columns.specs.Flat.{places_of}
use Rattle.sc_columns.specs.declared.columns.Column.{Column}
use Rattle.sc_columns.proofs.FlatLemmas.{picked-ranges, places-ranges}
use Rattle.sc_columns.proofs.flats.flat_lists.Goals as goal

pub picked-requires : goal.picked-requires
picked-requires c =
    let spans = c.args.spans.now in
    let items = shared_rows c.in_ok-items-in-None.items in
    let places = c.deref-in-None-3.result.now in
    let places_are = c.deref-in-None-3.ensures.value ∙ c.in_ok-places-in-None.ensures
    ∙ ap (λ x. flat_map (places_of (length (rows_in x))) spans) c.deref-in-None.ensures in
    let P : List ℕ → Type 0 = ArePlaces items in
    let Q : Column → Type 0 = λ x. ArePlaces (rows_in x) places in
    subst Q (sym c.deref-in-None-2.ensures) (subst P (sym places_are) (places-ranges items spans))

pub returns-in_ok-places-in-None : goal.returns-in_ok-places-in-None
returns-in_ok-places-in-None c =
    let spans = c.args.spans.now in
    let items = shared_rows c.in_ok-items-in-None.items in
    let places = c.deref-in-None-3.result.now in
    let places_are = c.deref-in-None-3.ensures.value ∙ c.in_ok-places-in-None.ensures
    ∙ ap (λ x. flat_map (places_of (length (rows_in x))) spans) c.deref-in-None.ensures in
    IfOk-weaker c.picked.result _ _ (λ r is. is
    ∙ ap (λ x. picked (rows_in x) places) c.deref-in-None-2.ensures
    ∙ ap (picked items) places_are
    ∙ picked-ranges items spans
    ∙ ap (λ x. flat_map (range_of x) spans) c.in_ok-items-in-None.ensures) c.picked.ensures
