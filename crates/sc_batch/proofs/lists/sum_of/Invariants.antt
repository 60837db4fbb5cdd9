use Rattle.std.proofs.Common.{◌≡◌, map, drop}
use Rattle.sc_value.specs.Datum.{number}
use Rattle.sc_expr.specs.Heads.{sum_onto}
use Rattle.sc_batch.specs.Lists.{sum_of}
use Rattle.sc_batch.proofs.lists.sum_of.Given as goal

abbrev pub invariant-loop-item : goal.invariant-loop-item
invariant-loop-item l = sum_of l.items ≡ sum_onto l.sum (map number (drop l.item-index l.items))
