use Rattle.std.proofs.Common.{◌≡◌, replicate}
use Rattle.std.specs.List.{flat_map}
use Rattle.sc_value.specs.Views.{datum_of}
use Rattle.sc_columns.specs.Flat.{items_in}
use Rattle.sc_columns.proofs.flats.flat_copies.Given as goal

abbrev pub invariant-loop : goal.invariant-loop
invariant-loop l = l.out ≡ flat_map items_in (replicate l.counter (datum_of l.value))
