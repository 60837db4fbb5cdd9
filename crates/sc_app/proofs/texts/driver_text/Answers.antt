use Rattle.std.specs.Prelude.{codes}
use Rattle.std.specs.Fmt.{decimal}
use Rattle.std.specs.String.{string_bytes}
use Rattle.sc_app.specs.FaultTexts.{cause_text}
use Rattle.sc_app.proofs.TextLemmas.{text_by, four_pieces}
use Rattle.sc_app.proofs.texts.driver_text.Goals as goal

pub returns : goal.returns
returns c =
    text_by string_bytes c.format.result _ _
    (four_pieces (codes "driver: action ") (decimal c.args.action) (codes ": ")
    c.name_of_cause-cause.result.now (cause_text c.args.kind)
    c.name_of_cause-cause.ensures) c.format.ensures.ok
