use Rattle.std.proofs.Common.{◌≡◌, ◌++◌, map, take}
use Rattle.sc_value.specs.Views.{datum_of}
use Rattle.sc_columns.proofs.flats.push_each.Given as goal

abbrev pub invariant-loop-i : goal.invariant-loop-i
invariant-loop-i l = l.out ≡ l.initial.out ++ map datum_of (take l.i l.values)
