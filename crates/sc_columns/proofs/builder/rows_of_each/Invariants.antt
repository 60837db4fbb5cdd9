use Rattle.std.proofs.Common.{◌≡◌, take}
use Rattle.std.specs.List.{flat_map}
use Rattle.sc_columns.specs.Columns.{shared_rows}
use Rattle.sc_columns.proofs.builder.rows_of_each.Given as goal

abbrev pub invariant-loop-i : goal.invariant-loop-i
invariant-loop-i l =
    flat_map (λ run. run) l.out.items ≡ flat_map shared_rows (take l.i l.columns)
