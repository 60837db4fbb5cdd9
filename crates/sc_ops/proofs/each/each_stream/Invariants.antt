use Rattle.std.proofs.Common.{◌≡◌, drop}
use Rattle.sc_expr.specs.Views.{expr_data_of}
use Rattle.sc_lineage.specs.Narrow.{at_row, each_stream, element_of, given_of}
use Rattle.sc_lineage.specs.Streams.{each_gives, with_rows}
use Rattle.sc_ops.proofs.BatchLemmas.{all_rows}
use Rattle.sc_ops.proofs.each.each_stream.Given as goal

abbrev pub invariant-loop-i : goal.invariant-loop-i
invariant-loop-i l =
    each_stream l.kind (expr_data_of l.expr) l.input
    ≡ with_rows l.out (each_gives (given_of l.kind)
    (λ d. at_row (expr_data_of l.expr) (element_of l.kind d))
    (all_rows (drop l.i l.batches.items)) l.input.raise)
