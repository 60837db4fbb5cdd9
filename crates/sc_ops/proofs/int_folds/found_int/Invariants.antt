use Rattle.std.proofs.Common.{◌≡◌, drop, map}
use Rattle.sc_expr.specs.Views.{expr_data_of}
use Rattle.sc_value.specs.Datum.{number}
use Rattle.sc_lineage.specs.Actions.{folded}
use Rattle.sc_ops.proofs.int_folds.found_int.Given as goal

abbrev pub invariant-loop-i : goal.invariant-loop-i
invariant-loop-i l =
    folded (expr_data_of l.expr) (number l.fn.first) (map number l.items)
    ≡ folded (expr_data_of l.expr) (number l.n) (drop l.i (map number l.items))
