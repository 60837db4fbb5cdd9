use Rattle.std.proofs.Common.{◌∙◌, map, ap}
use Rattle.sc_expr.specs.Heads.{list_value}
use Rattle.sc_value.specs.Picked.{picked}
use Rattle.sc_combine.proofs.SpanLemmas.{lists_are}
use Rattle.sc_combine.proofs.sides.Side.lists.Goals as goal

pub returns : goal.returns
returns c =
    let values = c.self.inside.values in
    let places = c.self.inside.places in
    c.in_ok-lists.ensures
    ∙ lists_are c.range_law.ensures values c.in_ok-items.items places c.self.invariant
    (c.in_ok-items.ensures ∙ ap (picked values) c.order.ensures)
    c.in_ok-spans.spans.items c.in_ok-spans.ensures.are
    ∙ ap (map list_value) c.self.view_is
