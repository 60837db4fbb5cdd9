use Rattle.std.proofs.Common.{◌≡◌, ◌++◌, map, take}
use Rattle.sc_value.specs.Datum.{text}
use Rattle.sc_value.specs.Printing.{printed_lines}
use Rattle.sc_columns.proofs.lines.write_text_lines.Given as goal

abbrev pub invariant-loop-i : goal.invariant-loop-i
invariant-loop-i l =
    l.out.items ≡ l.initial.out.items ++ printed_lines (take l.i (map text l.texts))
