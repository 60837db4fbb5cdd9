use Rattle.std.proofs.Common.{ℤ, [], List, Vec, sym, subst}
use Rattle.std.specs.declared.alloc.Global.{Global}
use Rattle.sc_expr.specs.Views.{expr_data_of}
use Rattle.sc_value.specs.Datum.{Datum}
use Rattle.sc_combine.specs.Combining.{folded_by, step_of}
use Rattle.sc_combine.specs.IntFolds.{AreFound}
use Rattle.sc_combine.specs.declared.combining.Taken.TheVariants.{Values}
use Rattle.sc_combine.proofs.int_folds.fold_as_ints.Goals as goal

pub returns-in-None : goal.returns-in-None
returns-in-None c =
    let step = step_of Values (expr_data_of c.args.expr.now) in
    let P : List Datum → Type 0 = λ values. AreFound {X = Vec ℤ Global} (λ v. v.items)
    (folded_by step [] c.args.numbers.now values) c.found_ints.result in
    c.found_rows.ensures (folded_by step [] c.args.numbers.now c.args.values.now)
    (subst P (sym c.in-Some.ensures) c.found_ints.ensures)
