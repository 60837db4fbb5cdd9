use Rattle.std.proofs.Common.{◌≡◌, map, take}
use Rattle.sc_value.specs.Views.{datum_of}
use Rattle.sc_expr.proofs.lists.list_of_copies.Given as goal

abbrev pub invariant-loop-value : goal.invariant-loop-value
invariant-loop-value l = map datum_of l.items.items ≡ map datum_of (take l.value-index l.values)
