use Rattle.std.proofs.Common.{◌∙◌, ap}
use Rattle.sc_value.specs.Datum.{truth}
use Rattle.sc_batch.specs.Choices.{as_rows, stream_from}
use Rattle.sc_batch.specs.Items.{list_in}
use Rattle.sc_batch.proofs.ChoiceLemmas.{merged_typed}
use Rattle.sc_batch.proofs.choices.choose_truths.Goals as goal

pub returns-in_ok-truths-in-Some-Some : goal.returns-in_ok-truths-in-Some-Some
returns-in_ok-truths-in-Some-Some c =
    let yes = c.args.yes.now in
    let no = c.args.no.now in
    c.in_ok-truths-in-Some-Some.ensures
    ∙ ap (λ m. stream_from (as_rows truth m)) c.in_ok-merged-in-Some-Some.ensures
    ∙ merged_typed truth c.args.marks.now (list_in c.in-Some-Some.first)
    (list_in c.in-Some-Some.second) yes.rows no.rows yes.raise no.raise c.args.end
    c.in-Some-Some.ensures c.in-Some-Some.ensures'
