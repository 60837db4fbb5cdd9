use Rattle.std.proofs.Common.{◌≡◌, map, pos, drop}
use Rattle.sc_value.specs.Views.{datum_of}
use Rattle.sc_expr.specs.Heads.{items_in, sum_onto}
use Rattle.sc_expr.proofs.lists.sum.Given as goal

abbrev pub invariant-loop-item : goal.invariant-loop-item
invariant-loop-item l =
    sum_onto (pos 0) (items_in (datum_of l.list))
    ≡ sum_onto l.total (map datum_of (drop l.item-index l.item-items))
