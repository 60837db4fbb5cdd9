use Rattle.std.proofs.Common.{◌≡◌, [], map, take}
use Rattle.sc_value.specs.Datum.{number}
use Rattle.sc_value.specs.Printing.{printed}
use Rattle.sc_columns.proofs.printing.printed_ints.Given as goal

abbrev pub invariant-loop-i : goal.invariant-loop-i
invariant-loop-i l = record {
  texts : l.out.texts ≡ map printed (map number (take l.i l.numbers));
  closed : l.out.open_text ≡ [];
}
