use Rattle.std.proofs.Common.{slice_range}
use Rattle.sc_value.specs.Datum.{items_of}
use Rattle.sc_value.specs.Printing.{printed_items}
use Rattle.sc_columns.specs.Columns.{rows_in}
use Rattle.sc_columns.specs.Prints.{IsWritten}
use Rattle.sc_columns.proofs.prints.+prints.Given as goal

abbrev pub invariant-write_items-loop-k : goal.invariant-write_items-loop-k
invariant-write_items-loop-k l =
    IsWritten l.fn.out.items l.out.items
    (printed_items (items_of (slice_range (rows_in l.items) l.fn.span.from l.k)))
