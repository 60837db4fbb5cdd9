use Rattle.std.proofs.Common.{◌∙◌}
use Rattle.std.proofs.lemmas.Option.{IfSome_then}
use Rattle.std.proofs.lemmas.Result.{IfOk-weaker}
use Rattle.sc_value.specs.Datum.{number}
use Rattle.sc_batch.specs.Items.{list_in}
use Rattle.sc_batch.specs.Outcomes.{of_two}
use Rattle.sc_batch.proofs.ValueLemmas.{of_typed}
use Rattle.sc_batch.proofs.heads.rows_of_ints.Goals as goal

pub returns-in-Some-Some : goal.returns-in-Some-Some
returns-in-Some-Some c =
    IfOk-weaker c.two_ints.result _ _ (λ o found. IfSome_then o found (λ s is. is
    ∙ of_typed (of_two c.args.head) number number (list_in c.in-Some-Some.m)
    (list_in c.in-Some-Some.n) c.args.first.now c.args.second.now c.args.end
    c.in-Some-Some.ensures c.in-Some-Some.ensures')) c.two_ints.ensures
