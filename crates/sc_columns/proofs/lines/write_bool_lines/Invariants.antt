use Rattle.std.proofs.Common.{◌≡◌, ◌*◌, ◌++◌, map, take}
use Rattle.sc_value.specs.Datum.{truth}
use Rattle.sc_value.specs.Printing.{printed_lines}
use Rattle.sc_columns.proofs.lines.write_bool_lines.Given as goal

abbrev pub invariant-loop-i : goal.invariant-loop-i
invariant-loop-i l =
    l.out.items ≡ l.initial.out.items ++ printed_lines (take (2 * l.i) (map truth l.truths))
