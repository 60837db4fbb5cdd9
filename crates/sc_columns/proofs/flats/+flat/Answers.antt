use Rattle.std.proofs.Common.{◌∙◌, ◌++◌, ap, ap₂, refl, sym}
use Rattle.std.proofs.lemmas.List.Concat.{flat_map-append}
use Rattle.std.proofs.lemmas.Result.{IfOk-weaker}
use Rattle.std.specs.List.{flat_map}
use Rattle.sc_value.specs.Datum.{number, text, truth}
use Rattle.sc_value.specs.Words.{range_of}
use Rattle.sc_columns.specs.Columns.{rows_in, shared_rows}
use Rattle.sc_columns.specs.Flat.{items_in}
use Rattle.sc_columns.proofs.FlatLemmas.{flat-none, flat-pairs, flat-ranges}
use Rattle.sc_columns.proofs.VariantLemmas.{at-Bools, at-Chain, at-Ints, at-Lists, at-Pairs, at-Texts}
use Rattle.sc_columns.proofs.flats.+flat.Goals as goal

pub returns-in-Lists : goal.returns-in-Lists
returns-in-Lists t c =
    let items = shared_rows c.in-Lists.items in
    IfOk-weaker c.flat_lists.result _ _ (λ r is. is
    ∙ ap (flat_map (range_of items)) c.as_slice.ensures
    ∙ flat-ranges items c.in-Lists.spans
    ∙ ap (flat_map items_in) (sym (ap rows_in (sym c.deref.ensures)
    ∙ at-Lists c.deref.result.now c.in-Lists.spans c.in-Lists.items c.in-Lists.is)))
    c.flat_lists.ensures

pub returns-in_ok-second-in-Chain : goal.returns-in_ok-second-in-Chain
returns-in_ok-second-in-Chain t c =
    let a = shared_rows c.in-Chain.a in
    let b = shared_rows c.in-Chain.b in
    IfOk-weaker c.chained.result _ _ (λ r is. is
    ∙ ap₂ (λ xs ys. xs ++ ys) c.in_ok-first-in-Chain.ensures c.in_ok-second-in-Chain.ensures
    ∙ sym (flat_map-append items_in a b)
    ∙ ap (flat_map items_in) (sym (ap rows_in (sym c.deref.ensures)
    ∙ at-Chain c.deref.result.now c.in-Chain.a c.in-Chain.b c.in-Chain.is))) c.chained.ensures

pub returns-in-Ints : goal.returns-in-Ints
returns-in-Ints t c =
    IfOk-weaker c.none.result _ _ (λ r is. is
    ∙ sym (ap (λ x. flat_map items_in (rows_in x)) (sym c.deref.ensures)
    ∙ ap (flat_map items_in) (at-Ints c.deref.result.now c.in-Ints.field-0 c.in-Ints.is)
    ∙ flat-none number (λ x. refl) c.in-Ints.field-0)) c.none.ensures

pub returns-in-Bools : goal.returns-in-Bools
returns-in-Bools t c =
    IfOk-weaker c.none-in-Bools.result _ _ (λ r is. is
    ∙ sym (ap (λ x. flat_map items_in (rows_in x)) (sym c.deref.ensures)
    ∙ ap (flat_map items_in) (at-Bools c.deref.result.now c.in-Bools.field-0 c.in-Bools.is)
    ∙ flat-none truth (λ x. refl) c.in-Bools.field-0)) c.none-in-Bools.ensures

pub returns-in-Texts : goal.returns-in-Texts
returns-in-Texts t c =
    IfOk-weaker c.none-in-Texts.result _ _ (λ r is. is
    ∙ sym (ap (λ x. flat_map items_in (rows_in x)) (sym c.deref.ensures)
    ∙ ap (flat_map items_in) (at-Texts c.deref.result.now c.in-Texts.field-0 c.in-Texts.is)
    ∙ flat-none text (λ x. refl) c.in-Texts.field-0)) c.none-in-Texts.ensures

pub returns-in-Pairs : goal.returns-in-Pairs
returns-in-Pairs t c =
    let a = shared_rows c.in-Pairs.field-0 in
    let b = shared_rows c.in-Pairs.field-1 in
    IfOk-weaker c.none-in-Pairs.result _ _ (λ r is. is
    ∙ sym (ap (λ x. flat_map items_in (rows_in x)) (sym c.deref.ensures)
    ∙ ap (flat_map items_in)
    (at-Pairs c.deref.result.now c.in-Pairs.field-0 c.in-Pairs.field-1 c.in-Pairs.is)
    ∙ flat-pairs a b)) c.none-in-Pairs.ensures
