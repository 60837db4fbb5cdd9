use Rattle.std.proofs.Common.{◌≡◌, ◌++◌, take}
use Rattle.sc_value.specs.Printing.{printed_lines}
use Rattle.sc_columns.proofs.lines.write_each.Given as goal

abbrev pub invariant-loop-i : goal.invariant-loop-i
invariant-loop-i g l =
    l.out.items ≡ l.initial.out.items ++ printed_lines (take l.i (g.C.Cells.rows l.rows))
