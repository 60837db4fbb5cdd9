use Rattle.std.proofs.lemmas.Result.{err_from_is_err_and}
use Rattle.sc_value.specs.Views.{datum_of}
use Rattle.sc_expr.specs.Meaning.{two_values, value_of_expr}
use Rattle.sc_expr.specs.Views.{expr_data_of}
use Rattle.sc_lineage.specs.Actions.{folded}
use Rattle.sc_ops.proofs.FoldLemmas.{folded-more, folded-raised, Answers-stopped_in}
use Rattle.sc_ops.proofs.folds.fold_each.Goals as goal

pub returns-in_err-put_next : goal.returns-in_err-put_next
returns-in_err-put_next c =
    let e = expr_data_of c.args.expr.now in
    let a = datum_of c.loop-i.value in
    let d = datum_of c.in_ok-row.row in
    let rows = c.args.rows.now in
    let p = err_from_is_err_and c.from_residual-in_err-put_next.result
    c.from_residual-in_err-put_next.ensures.1 in
    rw (p.1, p.2)
    (Answers-stopped_in c.put_next.new.kept (value_of_expr (two_values a d) e)
    (folded e (datum_of c.args.value) rows)
    c.in_err-put_next.field-0.0
    (λ r is. folded-raised e a (datum_of c.args.value) rows c.loop-i.i d r c.in_ok-row.ensures is
    c.loop-i.invariant)
    c.in_err-put_next.ensures)

pub loop-i-preserved : goal.loop-i-preserved
loop-i-preserved c =
    folded-more (expr_data_of c.args.expr.now) (datum_of c.loop-i.value)
    (datum_of c.put_next.new.kept) (datum_of c.args.value)
    c.args.rows.now c.loop-i.i (datum_of c.in_ok-row.row) c.in_ok-row.ensures
    c.in_ok-put_next.ensures
    c.loop-i.invariant
