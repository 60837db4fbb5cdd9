use Rattle.std.proofs.Common.{◌∙◌}
use Rattle.sc_value.specs.Datum.{text}
use Rattle.sc_batch.specs.Texts.{texts_in}
use Rattle.sc_batch.proofs.ChoiceLemmas.{merged_typed}
use Rattle.sc_batch.proofs.choices.choose_texts.Goals as goal

pub returns-in_ok-stream-in-Some-Some : goal.returns-in_ok-stream-in-Some-Some
returns-in_ok-stream-in-Some-Some c =
    let yes = c.args.yes.now in
    let no = c.args.no.now in
    c.in_ok-stream-in-Some-Some.ensures
    ∙ merged_typed text c.args.marks.now (texts_in c.in-Some-Some.first)
    (texts_in c.in-Some-Some.second) yes.rows no.rows yes.raise no.raise c.args.end
    c.in-Some-Some.ensures c.in-Some-Some.ensures'
