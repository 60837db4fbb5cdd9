use Rattle.std.proofs.Common.{◌≡◌, ◌++◌, drop, map}
use Rattle.sc_value.specs.Kept.{kept}
use Rattle.sc_value.specs.Views.{datum_of}
use Rattle.sc_columns.proofs.filters.kept_values.Given as goal

abbrev pub invariant-loop-i : goal.invariant-loop-i
invariant-loop-i l =
    map datum_of l.out.items ++ kept (drop l.i l.marks) (drop l.i (map datum_of l.values))
    ≡ kept l.marks (map datum_of l.values)
