use Rattle.std.proofs.Common.{ℤ, rules, subst, w64, SFits}
use Rattle.std.proofs.lemmas.Int.{to_z-of_z}
use Rattle.sc_value.specs.Datum.{number}
use Rattle.sc_batch.specs.AtInts.{Gives}
use Rattle.sc_expr.specs.Views.{expr_data_of}
use Rattle.sc_ops.proofs.FoldLemmas.{folded-held}
use Rattle.sc_ops.proofs.int_folds.fold_as_ints.Goals as goal

pub returns-in-Int : goal.returns-in-Int
returns-in-Int c =
    let n = c.in-Int.n in
    let fits : SFits w64 c.in-Int.n = search rules in
    subst (Gives {X = ℤ} number c.fold_numbers.result)
    (folded-held (expr_data_of c.args.expr.now) c.args.value.now n _ c.args.rows.now
    c.in-Some.items.now c.in-Int.is (to_z-of_z w64 n fits) c.in-Some.ensures)
    c.fold_numbers.ensures
