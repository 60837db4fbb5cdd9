use Rattle.std.proofs.Common.{◌≡◌, map, take}
use Rattle.std.specs.List.{flat_map}
use Rattle.sc_value.specs.Views.{datum_of}
use Rattle.sc_columns.specs.Flat.{items_in}
use Rattle.sc_columns.proofs.flats.flat_values.Given as goal

abbrev pub invariant-loop-i : goal.invariant-loop-i
invariant-loop-i l = l.out ≡ flat_map items_in (map datum_of (take l.i l.values))
