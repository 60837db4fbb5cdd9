use Rattle.std.proofs.Common.{◌≡◌, [], drop, map}
use Rattle.sc_expr.specs.Views.{expr_data_of}
use Rattle.sc_value.specs.Datum.{number}
use Rattle.sc_combine.specs.Combining.{folded_by, step_of}
use Rattle.sc_combine.specs.declared.combining.Taken.TheVariants.{Values}
use Rattle.sc_combine.proofs.int_folds.found_ints.Given as goal

abbrev pub invariant-loop-i : goal.invariant-loop-i
invariant-loop-i l =
    folded_by (step_of Values (expr_data_of l.expr)) [] l.numbers (map number l.items)
    ≡ folded_by (step_of Values (expr_data_of l.expr)) (map number l.found.items)
    (drop l.i l.numbers) (drop l.i (map number l.items))
