use Rattle.std.proofs.Common.{◌≡◌, map, take}
use Rattle.sc_value.specs.Views.{datum_of}
use Rattle.sc_combine.proofs.combining.rows_of.Given as goal

abbrev pub invariant-loop-value : goal.invariant-loop-value
invariant-loop-value l = l.out ≡ map datum_of (take l.value-index l.values)
