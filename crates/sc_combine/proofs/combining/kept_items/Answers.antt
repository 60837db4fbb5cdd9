use Rattle.std.proofs.Common.{◌≤◌, [], length, map, get_or, arith, Vec, Global}
use Rattle.std.proofs.lemmas.Result.{err_from_is_err_and}
use Rattle.sc_expr.specs.Views.{expr_data_of}
use Rattle.sc_value.specs.Views.{datum_of}
use Rattle.sc_value.specs.declared.values.Value.{Value}
use Rattle.sc_combine.specs.Combining.{folded_by, put_at, step_of}
use Rattle.sc_combine.proofs.FoldLemmas.{Answers-refused, folded_all, folded_more, folded_raised}
use Rattle.sc_combine.proofs.combining.kept_items.Goals as goal

pub loop-i-preserved : goal.loop-i-preserved
loop-i-preserved c =
    let step = step_of c.args.taken (expr_data_of c.args.expr.now) in
    let numbers = c.args.numbers.now in
    let items = c.args.items.now in
    folded_more step (map datum_of c.loop-i.kept.items) (map datum_of c.put_item.new.kept.items)
    numbers items c.loop-i.i (datum_of c.in_ok-item.item) (folded_by step [] numbers items)
    c.requires.level c.in_ok-item.ensures c.in_ok-put_item.ensures c.loop-i.invariant

pub returns-in_err-put_item : goal.returns-in_err-put_item
returns-in_err-put_item c =
    let step = step_of c.args.taken (expr_data_of c.args.expr.now) in
    let numbers = c.args.numbers.now in
    let items = c.args.items.now in
    let kept = map datum_of c.loop-i.kept.items in
    let item = datum_of c.in_ok-item.item in
    let i = c.loop-i.i in
    let whole = folded_by step [] numbers items in
    let p = err_from_is_err_and c.from_residual-in_err-put_item.result
    c.from_residual-in_err-put_item.ensures.1 in
    rw (p.1, p.2)
    (Answers-refused {X = Unit {0}} (λ u. map datum_of c.put_item.new.kept.items)
    (λ (v : Vec Value Global). map datum_of v.items)
    (put_at step kept (get_or numbers i 0) item) whole c.in_err-put_item.field-0.0
    (λ r is. folded_raised step kept numbers items i item whole r c.requires.level
    c.in_ok-item.ensures is c.loop-i.invariant)
    c.in_err-put_item.ensures)

pub returns : goal.returns
returns c =
    let step = step_of c.args.taken (expr_data_of c.args.expr.now) in
    let numbers = c.args.numbers.now in
    let items = c.args.items.now in
    let past : length c.args.items.now ≤ c.loop-i.i =
    omega (arith, c.loop-i-test.false, c.len-i-end.ensures) in
    folded_all step (map datum_of c.loop-i.kept.items) numbers items c.loop-i.i
    (folded_by step [] numbers items) c.requires.level past c.loop-i.invariant
