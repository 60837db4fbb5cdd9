use Rattle.std.proofs.Common.{rules, ◌≡◌, ◌∙◌, length, ap, arith, sym}
use Rattle.std.proofs.lemmas.Int.{to_z-of_z}
use Rattle.std.proofs.lemmas.List.{length-replicate}
use Rattle.std.proofs.lemmas.Result.{IfOk-weaker}
use mir.Val.{SFits}
use mir.Syntax.{w64}
use Rattle.sc_columns.specs.Columns.{zip_with}
use Rattle.sc_batch.specs.Items.{division, list_in}
use Rattle.sc_batch.specs.Outcomes.{until_raise}
use Rattle.sc_batch.proofs.DivisorLemmas.{each-divided}
use Rattle.sc_batch.proofs.numbers.divisions.Goals as goal

pub returns-in-Some : goal.returns-in-Some
returns-in-Some c =
    let xs = list_in c.args.m in
    let y = c.in-Same.number.now in
    let n = c.in-Same.field-1 in
    let fits : SFits w64 y = search rules in
    let are = ap list_in c.in-Same.is in
    let len : length (list_in c.args.n) ≡ n = ap length are ∙ length-replicate n y in
    IfOk-weaker c.quotients.result _ _ (λ s is. is
    ∙ each-divided c.args.rest xs n _ c.in-Some.by.number y c.args.end (omega (arith, len))
    (sym (to_z-of_z w64 y fits) ∙ c.in-Some.ensures.number) c.in-Some.ensures.divisor.above_one
    ∙ ap (λ ys. until_raise (zip_with (division c.args.rest) xs ys) c.args.end) (sym are))
    c.quotients.ensures
