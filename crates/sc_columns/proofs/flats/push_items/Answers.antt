use Rattle.std.proofs.Common.{◌∙◌, ◌++◌, ap, map, sym}
use Rattle.sc_value.proofs.ViewLemmas.{datum_of-List}
use Rattle.sc_value.specs.Views.{datum_of}
use Rattle.sc_columns.specs.Flat.{items_in}
use Rattle.sc_columns.proofs.FlatLemmas.{list_of-items_of}
use Rattle.std.proofs.lemmas.Result.{on_ok_weaker}
use Rattle.sc_columns.proofs.flats.push_items.Goals as goal

pub returns-in-List : goal.returns-in-List
returns-in-List c =
    let items = map datum_of c.in-List.items.items in
    on_ok_weaker c.push_each.result (λ is. is
    ∙ ap (λ v. c.args.out.now ++ map datum_of v) c.as_slice.ensures.value
    ∙ ap (λ ds. c.args.out.now ++ ds) (sym (list_of-items_of items))
    ∙ ap (λ d. c.args.out.now ++ items_in d)
    (sym (ap datum_of c.in-List.is ∙ datum_of-List c.in-List.items))) c.push_each.ensures
