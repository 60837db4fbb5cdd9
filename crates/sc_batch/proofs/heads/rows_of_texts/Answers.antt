use Rattle.std.proofs.Common.{◌∙◌}
use Rattle.std.proofs.lemmas.Option.{IfSome_then}
use Rattle.std.proofs.lemmas.Result.{IfOk-weaker}
use Rattle.sc_value.specs.Datum.{text}
use Rattle.sc_batch.specs.Texts.{texts_in}
use Rattle.sc_batch.specs.Outcomes.{of_two}
use Rattle.sc_batch.proofs.ValueLemmas.{of_typed}
use Rattle.sc_batch.proofs.heads.rows_of_texts.Goals as goal

pub returns-in-Some-Some : goal.returns-in-Some-Some
returns-in-Some-Some c =
    IfOk-weaker c.two_texts.result _ _ (λ o found. IfSome_then o found (λ s is. is
    ∙ of_typed (of_two c.args.head) text text (texts_in c.in-Some-Some.a)
    (texts_in c.in-Some-Some.b) c.args.first.now c.args.second.now c.args.end
    c.in-Some-Some.ensures c.in-Some-Some.ensures')) c.two_texts.ensures
