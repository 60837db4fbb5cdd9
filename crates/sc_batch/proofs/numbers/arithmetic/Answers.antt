use Rattle.std.proofs.Common.{◌∙◌, ap, arith, map}
use Rattle.std.proofs.lemmas.Result.{IfOk-weaker}
use Rattle.sc_value.specs.Datum.{number}
use Rattle.sc_batch.specs.Items.{int_value, list_in}
use Rattle.sc_batch.proofs.PlaceLemmas.{zip_with-front}
use Rattle.sc_batch.proofs.numbers.arithmetic.Goals as goal

pub returns : goal.returns
returns c =
    IfOk-weaker c.put_together.result _ _ (λ s is. is
    ∙ ap (λ zs. record { rows = map number zs; raise = c.args.end })
    (zip_with-front (int_value c.args.head) (list_in c.args.m) (list_in c.args.n) _ (omega arith)))
    c.put_together.ensures
