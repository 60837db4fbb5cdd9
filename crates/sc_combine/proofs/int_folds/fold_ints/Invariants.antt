use Rattle.std.proofs.Common.{◌≡◌, [], drop, map}
use Rattle.sc_expr.specs.ExprData.{ExprData}
use Rattle.sc_value.specs.Datum.{number}
use Rattle.sc_combine.specs.Combining.{folded_by, step_of}
use Rattle.sc_batch.specs.IntFolds.{FoldsInts}
use Rattle.sc_combine.specs.declared.combining.Taken.TheVariants.{Values}
use Rattle.sc_combine.proofs.int_folds.fold_ints.Given as goal

abbrev pub invariant-loop-i : goal.invariant-loop-i
invariant-loop-i l =
    (e : ExprData) → FoldsInts e l.kind
    → folded_by (step_of Values e) [] l.numbers (map number l.items)
    ≡ folded_by (step_of Values e) (map number l.folded.items) (drop l.i l.numbers)
    (map number (drop l.i l.items))
