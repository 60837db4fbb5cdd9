use Rattle.std.proofs.Common.{rules, w64, SFits}
use Rattle.std.proofs.lemmas.Int.{to_z-of_z}
use Rattle.sc_expr.specs.Views.{expr_data_of}
use Rattle.sc_ops.proofs.FoldLemmas.{folded-simply}
use Rattle.sc_ops.proofs.int_folds.fold_numbers.Goals as goal

pub returns-in-Some : goal.returns-in-Some
returns-in-Some c =
    let last = c.fold_ints.result in
    let first_fits : SFits w64 c.args.first = search rules in
    let last_fits : SFits w64 c.fold_ints.result = search rules in
    folded-simply (expr_data_of c.args.expr.now) c.in-Some.kind c.args.first _ last _
    c.args.items.now c.in-Some.ensures (to_z-of_z w64 c.args.first first_fits) c.fold_ints.ensures
    (to_z-of_z w64 last last_fits)
