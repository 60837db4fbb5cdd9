use Rattle.std.proofs.Common.{◌∙◌, ◌+◌, ap, arith, drop, sym}
use Rattle.std.proofs.lemmas.Result.{err_from_is_err_and}
use Rattle.sc_value.specs.Views.{datum_of}
use Rattle.sc_expr.specs.Views.{expr_data_of}
use Rattle.sc_lineage.specs.Actions.{folded}
use Rattle.sc_ops.proofs.BatchLemmas.{all_rows, next_batch, rest_of_rows}
use Rattle.sc_ops.proofs.FoldLemmas.{folded-run, folded-run_raised, Answers-stopped}
use Rattle.sc_ops.proofs.folds.fold_behind.Goals as goal

pub loop-i-init : goal.loop-i-init
loop-i-init c =
    ap (folded (expr_data_of c.args.expr.now) (datum_of c.args.first))
    (sym (c.in_ok-rest.ensures ∙ rest_of_rows c.args.rows.now _ c.len.result c.len.ensures
    c.in_ok-part.ensures))

pub returns-in_err-value : goal.returns-in_err-value
returns-in_err-value c =
    let e = expr_data_of c.args.expr.now in
    let a = datum_of c.loop-i.value in
    let whole = folded e (datum_of c.args.first) (drop 1 c.args.rows.now) in
    let batches = c.in_ok-rest.rest.items in
    let batch = c.index.result.now in
    let i = c.loop-i.i in
    let p = err_from_is_err_and c.from_residual-in_err-value.result
    c.from_residual-in_err-value.ensures.1 in
    rw (p.1, p.2)
    (Answers-stopped (folded e a batch) whole c.in_err-value.field-0.0
    (λ r is. folded-run_raised e a (all_rows (drop i batches)) batch
    (all_rows (drop (i + 1) batches)) whole r
    (next_batch batches batch i (omega arith) c.index.ensures) is c.loop-i.invariant)
    c.in_err-value.ensures)

pub loop-i-preserved : goal.loop-i-preserved
loop-i-preserved c =
    let e = expr_data_of c.args.expr.now in
    let batches = c.in_ok-rest.rest.items in
    let batch = c.index.result.now in
    let i = c.loop-i.i in
    folded-run e (datum_of c.loop-i.value) (datum_of c.in_ok-value.value)
    (all_rows (drop i batches)) batch (all_rows (drop (i + 1) batches)) _
    (next_batch batches batch i (omega arith) c.index.ensures)
    c.in_ok-value.ensures c.loop-i.invariant
