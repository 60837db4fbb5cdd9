use Rattle.std.proofs.Common.{◌∙◌, ◌<◌, length, ap, subst, sym}
use Rattle.std.proofs.lemmas.List.{length-map}
use Rattle.std.specs.List.{All}
use Rattle.sc_lineage.specs.Keyed.{key_of}
use Rattle.sc_part.specs.Bounds.{is_before}
use Rattle.sc_part.specs.Sorts.{sort_order}
use Rattle.sc_value.specs.Picked.{ArePlaces, picked}
use Rattle.sc_combine.proofs.sorting.in_key_order.Goals as goal

pub picked-requires : goal.picked-requires
picked-requires c =
    let rows = c.args.rows.now in
    let order = c.in_ok-order.order.items in
    subst (ArePlaces rows) (sym c.deref.ensures.value)
    (subst (λ n. All (λ p. p < n) order)
    (ap length c.in_ok-keys.ensures ∙ length-map rows key_of) c.in_ok-order.ensures.places)

pub returns : goal.returns
returns c =
    let rows = c.args.rows.now in
    c.in_ok-sorted.ensures
    ∙ ap (picked rows) (c.deref.ensures.value ∙ c.in_ok-order.ensures.are
    ∙ ap (sort_order is_before) c.in_ok-keys.ensures)
    ∙ (c.rows_are_sorted.ensures key_of rows).places
