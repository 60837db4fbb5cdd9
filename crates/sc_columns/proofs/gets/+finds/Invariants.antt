use Rattle.std.proofs.Common.{◌≡◌, map, slice_range}
use Rattle.sc_value.specs.Views.{datum_of}
use Rattle.sc_columns.specs.Columns.{rows_in}
use Rattle.sc_columns.proofs.gets.+finds.Given as goal

abbrev pub invariant-list_at-loop-k : goal.invariant-list_at-loop-k
invariant-list_at-loop-k l =
    map datum_of l.out.items ≡ slice_range (rows_in l.items) l.fn.span.from l.k
