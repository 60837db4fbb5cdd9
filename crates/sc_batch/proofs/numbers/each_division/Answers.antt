use Rattle.std.proofs.Common.{rules, ◌∙◌, ◌<◌, ◌≤◌, ap, map, length, arith, ◌++◌, ◌∷◌, [], refl, Some, None, Ok, Err, sym}
use Rattle.std.proofs.lemmas.Result.{IfOk-weaker}
use Rattle.sc_columns.specs.Columns.{zip_with}
use Rattle.sc_columns.proofs.ListLemmas.{length-zip_with, slice_get-zip_with}
use Rattle.std.proofs.lemmas.Int.{to_z-of_z}
use Rattle.std.proofs.lemmas.List.{map_push}
use mir.Val.{SFits}
use mir.Syntax.{w64}
use Rattle.sc_value.specs.Datum.{number}
use Rattle.sc_expr.specs.declared.exprs.Raise.TheVariants.{DivideByZero}
use Rattle.sc_batch.specs.Items.{division, list_in}
use Rattle.sc_batch.proofs.StreamLemmas.{rows-all, rows-more, rows-raised}
use Rattle.sc_batch.proofs.NumberLemmas.{read_two}
use Rattle.sc_batch.proofs.ValueLemmas.{adds_raise, adds_value}
use Rattle.sc_batch.proofs.numbers.each_division.Goals as goal

pub returns-in-None : goal.returns-in-None
returns-in-None c =
    let x : SFits w64 c.at.result = search rules in
    let y : SFits w64 c.at-in-loop-i.result = search rules in
    let f = division c.args.rest in
    let os = zip_with f (list_in c.args.m) (list_in c.args.n) in
    let out = map number c.loop-i.out.items in
    let here = slice_get-zip_with f (list_in c.args.m) (list_in c.args.n) c.loop-i.i c.at.result
    c.at-in-loop-i.result c.at.ensures c.at-in-loop-i.ensures in
    let raised = sym (read_two f c.at.result c.at-in-loop-i.result (Err DivideByZero) x y
    c.in-None.ensures) in
    let within : c.loop-i.i < length os =
    omega (arith, length-zip_with f (list_in c.args.m) (list_in c.args.n)) in
    let same = rows-raised os c.args.end out out (Some DivideByZero) c.loop-i.i within
    c.loop-i.invariant (adds_raise os c.loop-i.i _ DivideByZero out here raised) refl in
    IfOk-weaker c.ints.result _ _ (λ s is. is ∙ same) c.ints.ensures

pub loop-i-preserved : goal.loop-i-preserved
loop-i-preserved c =
    let x : SFits w64 c.at.result = search rules in
    let y : SFits w64 c.at-in-loop-i.result = search rules in
    let q : SFits w64 c.in-Some.q = search rules in
    let f = division c.args.rest in
    let os = zip_with f (list_in c.args.m) (list_in c.args.n) in
    let out = map number c.loop-i.out.items in
    let here = slice_get-zip_with f (list_in c.args.m) (list_in c.args.n) c.loop-i.i c.at.result
    c.at-in-loop-i.result c.at.ensures c.at-in-loop-i.ensures in
    let given = sym (read_two f c.at.result c.at-in-loop-i.result (Ok (number c.in-Some.q)) x y
    c.in-Some.ensures) in
    let within : c.loop-i.i < length os =
    omega (arith, length-zip_with f (list_in c.args.m) (list_in c.args.n)) in
    rows-more os c.args.end out (map number c.push.new.self.items) None c.loop-i.i within
    c.loop-i.invariant
    (adds_value os c.loop-i.i _ (number c.in-Some.q) out (map number c.push.new.self.items) here
    given
    (ap (map number) c.in_ok-push-in-Some.ensures.items
    ∙ map_push number c.loop-i.out.items _
    ∙ ap (λ z. out ++ number z ∷ []) (to_z-of_z w64 c.in-Some.q q))) refl

pub returns : goal.returns
returns c =
    let xs = list_in c.args.m in
    let ys = list_in c.args.n in
    let os = zip_with (division c.args.rest) xs ys in
    let past : length os ≤ c.loop-i.i = omega (arith, length-zip_with (division c.args.rest) xs ys)
    in
    IfOk-weaker c.ints-2.result _ _ (λ s is. is
    ∙ rows-all os c.args.end (map number c.loop-i.out.items) c.loop-i.i past c.loop-i.invariant)
    c.ints-2.ensures
