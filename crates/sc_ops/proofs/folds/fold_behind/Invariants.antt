use Rattle.std.proofs.Common.{◌≡◌, drop}
use Rattle.sc_value.specs.Views.{datum_of}
use Rattle.sc_expr.specs.Views.{expr_data_of}
use Rattle.sc_lineage.specs.Actions.{folded}
use Rattle.sc_ops.proofs.BatchLemmas.{all_rows}
use Rattle.sc_ops.proofs.folds.fold_behind.Given as goal

abbrev pub invariant-loop-i : goal.invariant-loop-i
invariant-loop-i l =
    folded (expr_data_of l.expr) (datum_of l.fn.first) (drop 1 l.rows)
    ≡ folded (expr_data_of l.expr) (datum_of l.value) (all_rows (drop l.i l.rest.items))
