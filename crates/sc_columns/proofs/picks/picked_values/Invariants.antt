use Rattle.std.proofs.Common.{◌≡◌, ◌++◌, drop, map}
use Rattle.sc_value.specs.Picked.{picked}
use Rattle.sc_value.specs.Views.{datum_of}
use Rattle.sc_columns.specs.Columns.{rows_in}
use Rattle.sc_columns.proofs.picks.picked_values.Given as goal

abbrev pub invariant-loop-i : goal.invariant-loop-i
invariant-loop-i l =
    map datum_of l.out.items ++ picked (rows_in l.column) (drop l.i l.places)
    ≡ picked (rows_in l.column) l.places
