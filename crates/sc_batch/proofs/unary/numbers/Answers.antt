use Rattle.std.proofs.Common.{◌∙◌}
use Rattle.std.proofs.lemmas.Result.{IfOk-weaker}
use Rattle.sc_value.specs.Datum.{text}
use Rattle.sc_expr.specs.declared.exprs.Head.TheVariants as heads
use Rattle.sc_batch.specs.Outcomes.{of_one}
use Rattle.sc_batch.proofs.ValueLemmas.{of_typed_one}
use Rattle.sc_batch.proofs.unary.numbers.Goals as goal

pub returns-in-Some : goal.returns-in-Some
returns-in-Some c =
    IfOk-weaker c.parsed.result _ _ (λ s is. is
    ∙ of_typed_one (of_one heads.Int) text c.in-Some.texts.now c.args.rows.now c.args.end
    c.in-Some.ensures) c.parsed.ensures
