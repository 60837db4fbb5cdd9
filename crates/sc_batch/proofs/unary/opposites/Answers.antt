use Rattle.std.proofs.Common.{◌∙◌, ap, map, not, refl}
use Rattle.std.proofs.lemmas.Result.{IfOk-weaker}
use Rattle.sc_value.specs.Datum.{truth}
use Rattle.sc_expr.specs.declared.exprs.Head.TheVariants as heads
use Rattle.sc_batch.specs.Outcomes.{of_one}
use Rattle.sc_batch.proofs.ValueLemmas.{each-value, of_typed_one}
use Rattle.sc_batch.proofs.unary.opposites.Goals as goal

pub returns-in_ok-opposite-in-Some : goal.returns-in_ok-opposite-in-Some
returns-in_ok-opposite-in-Some c =
    let marks = c.in-Some.marks.now in
    IfOk-weaker c.truths.result _ _ (λ s is. is
    ∙ ap (λ bs. record { rows = map truth bs; raise = c.args.end }) c.in_ok-opposite-in-Some.ensures
    ∙ each-value (λ b. of_one heads.Not (truth b)) truth not (λ b. refl) marks c.args.end
    ∙ of_typed_one (of_one heads.Not) truth marks c.args.rows.now c.args.end c.in-Some.ensures)
    c.truths.ensures
