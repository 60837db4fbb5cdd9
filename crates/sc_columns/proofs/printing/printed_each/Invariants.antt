use Rattle.std.proofs.Common.{◌≡◌, [], map, take}
use Rattle.sc_value.specs.Printing.{printed}
use Rattle.sc_columns.specs.Columns.{rows_in}
use Rattle.sc_columns.proofs.printing.printed_each.Given as goal

abbrev pub invariant-loop-i : goal.invariant-loop-i
invariant-loop-i l = record {
  texts : l.out.texts ≡ map printed (take l.i (rows_in l.column));
  closed : l.out.open_text ≡ [];
}
