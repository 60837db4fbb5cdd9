use Rattle.std.proofs.Common.{rules, ◌≡◌, ◌∙◌, [], ℤ, Some, Vec, length, map, get_or, ap, sym, pos, w64, SFits}
use Rattle.std.proofs.lemmas.Int.{to_z-of_z}
use Rattle.std.proofs.lemmas.List.{length-map}
use Rattle.std.proofs.lemmas.Option.{slice_get-get_or, slice_get-map}
use Rattle.std.proofs.lemmas.Result.{err_from_is_err_and}
use Rattle.std.specs.List.{slice_get}
use Rattle.std.specs.Option.{option_map}
use Rattle.std.specs.declared.alloc.Global.{Global}
use Rattle.sc_expr.specs.Views.{expr_data_of}
use Rattle.sc_value.specs.Datum.{number}
use Rattle.sc_combine.specs.Combining.{folded_by, put_at, step_of}
use Rattle.sc_combine.specs.declared.combining.Taken.TheVariants.{Values}
use Rattle.sc_combine.proofs.FoldLemmas.{folded_more, folded_raised, found_refused}
use Rattle.sc_combine.proofs.int_folds.found_ints.Goals as goal

pub returns-in_err-put_int : goal.returns-in_err-put_int
returns-in_err-put_int c =
    let step = step_of Values (expr_data_of c.args.expr.now) in
    let numbers = c.args.numbers.now in
    let ints = c.args.items.now in
    let items = map number ints in
    let i = c.loop-i.i in
    let kept = map number c.loop-i.found.items in
    let x = get_or ints i (pos 0) in
    let fits : SFits w64 (get_or c.args.items.now c.loop-i.i (pos 0)) = search rules in
    let whole = folded_by step [] numbers items in
    let level : length (map number c.args.items.now) ≡ length c.args.numbers.now =
    length-map ints number ∙ c.requires.level in
    let at : slice_get items i ≡ Some (number x) =
    slice_get-map number ints i
    ∙ ap (option_map number) (slice_get-get_or ints i (pos 0) c.loop-i-test.true) in
    let y = ap number (to_z-of_z w64 x fits) in
    let p = err_from_is_err_and c.from_residual.result c.from_residual.ensures.1 in
    rw (p.1, p.2)
    (found_refused {X = Unit {0}} {Y = Vec ℤ Global} (λ u. c.put_int.new.found.items)
    (λ v. v.items) _ whole c.in_err-put_int.field-0.0
    (λ r is. folded_raised step kept numbers items i (number x) whole r level at
    (ap (put_at step kept (get_or numbers i 0)) (sym y) ∙ is) c.loop-i.invariant)
    c.in_err-put_int.ensures)

pub loop-i-preserved : goal.loop-i-preserved
loop-i-preserved c =
    let step = step_of Values (expr_data_of c.args.expr.now) in
    let numbers = c.args.numbers.now in
    let ints = c.args.items.now in
    let items = map number ints in
    let i = c.loop-i.i in
    let kept = map number c.loop-i.found.items in
    let x = get_or ints i (pos 0) in
    let fits : SFits w64 (get_or c.args.items.now c.loop-i.i (pos 0)) = search rules in
    let level : length (map number c.args.items.now) ≡ length c.args.numbers.now =
    length-map ints number ∙ c.requires.level in
    let at : slice_get items i ≡ Some (number x) =
    slice_get-map number ints i
    ∙ ap (option_map number) (slice_get-get_or ints i (pos 0) c.loop-i-test.true) in
    let y = ap number (to_z-of_z w64 x fits) in
    folded_more step kept (map number c.put_int.new.found.items) numbers items i (number x)
    (folded_by step [] numbers items) level at
    (ap (put_at step kept (get_or numbers i 0)) (sym y) ∙ c.in_ok-put_int.ensures)
    c.loop-i.invariant
