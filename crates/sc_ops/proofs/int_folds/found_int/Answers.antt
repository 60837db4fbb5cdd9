use Rattle.std.proofs.Common.{rules, ◌≡◌, ◌∙◌, ℤ, Err, Ok, get_or, ap, sym, subst, pos, w64, SFits}
use mir.Val.{to_z}
use Rattle.std.proofs.lemmas.Int.{to_z-of_z}
use Rattle.std.proofs.lemmas.Option.{slice_get-get_or}
use Rattle.std.proofs.lemmas.Result.{err_from_is_err_and}
use Rattle.sc_value.specs.Datum.{number}
use Rattle.sc_batch.specs.AtInts.{Gives}
use Rattle.sc_expr.specs.Heads.{Outcome}
use Rattle.sc_expr.specs.Meaning.{two_values, value_of_expr}
use Rattle.sc_expr.specs.Views.{expr_data_of}
use Rattle.sc_ops.proofs.FoldLemmas.{ints-more, ints-stopped}
use Rattle.sc_ops.proofs.int_folds.found_int.Goals as goal

pub returns-in_err-n : goal.returns-in_err-n
returns-in_err-n c =
    let e = expr_data_of c.args.expr.now in
    let ints = c.args.items.now in
    let i = c.loop-i.i in
    let a = to_z w64 c.loop-i.n-bits in
    let x = get_or ints i (pos 0) in
    let first_fits : SFits w64 c.args.first = search rules in
    let fits : SFits w64 (get_or c.args.items.now c.loop-i.i (pos 0)) = search rules in
    let stop = c.in_err-n.field-0.0 in
    let P : Outcome → Type 0 = λ o. Gives {X = ℤ} number (Err stop) o in
    let p = err_from_is_err_and c.from_residual.result c.from_residual.ensures.1 in
    rw (p.1, p.2)
    (ints-stopped e a x c.args.first _ ints i stop
    (slice_get-get_or ints i (pos 0) c.loop-i-test.true)
    (subst P (ap (λ z. value_of_expr (two_values (number a) (number z)) e)
    (to_z-of_z w64 x fits)) c.in_err-n.ensures)
    (to_z-of_z w64 c.args.first first_fits) c.loop-i.invariant)

pub loop-i-preserved : goal.loop-i-preserved
loop-i-preserved c =
    let e = expr_data_of c.args.expr.now in
    let ints = c.args.items.now in
    let i = c.loop-i.i in
    let a = to_z w64 c.loop-i.n-bits in
    let x = get_or ints i (pos 0) in
    let n = c.in_ok-n.n in
    let fits : SFits w64 (get_or c.args.items.now c.loop-i.i (pos 0)) = search rules in
    let n_fits : SFits w64 c.in_ok-n.n = search rules in
    ints-more e _ a x n _ ints i (slice_get-get_or ints i (pos 0) c.loop-i-test.true)
    (sym (ap (λ z. value_of_expr (two_values (number a) (number z)) e)
    (to_z-of_z w64 x fits)) ∙ c.in_ok-n.ensures)
    (to_z-of_z w64 n n_fits) c.loop-i.invariant
