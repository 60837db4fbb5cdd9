use Rattle.std.proofs.Common.{◌≡◌, [], drop, map}
use Rattle.sc_expr.specs.Views.{expr_data_of}
use Rattle.sc_value.specs.Views.{datum_of}
use Rattle.sc_combine.specs.Combining.{folded_by, step_of}
use Rattle.sc_combine.proofs.combining.kept_items.Given as goal

abbrev pub invariant-loop-i : goal.invariant-loop-i
invariant-loop-i l =
    folded_by (step_of l.taken (expr_data_of l.expr)) [] l.numbers l.items
    ≡ folded_by (step_of l.taken (expr_data_of l.expr)) (map datum_of l.kept.items)
    (drop l.i l.numbers) (drop l.i l.items)
