use Rattle.std.proofs.Common.{slice_range}
use Rattle.sc_value.specs.Datum.{items_of}
use Rattle.sc_value.specs.Printing.{printed_items}
use Rattle.sc_columns.specs.Prints.{IsWritten}
use Rattle.sc_columns.proofs.cells.write_items.Given as goal

abbrev pub invariant-loop-k : goal.invariant-loop-k
invariant-loop-k g l =
    IsWritten l.fn.out.items l.out.items
    (printed_items (items_of (slice_range (g.C.Cells.rows l.items) l.fn.span.from l.k)))
