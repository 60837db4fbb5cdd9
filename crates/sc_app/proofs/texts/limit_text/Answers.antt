use Rattle.std.specs.Prelude.{codes}
use Rattle.std.specs.Fmt.{decimal}
use Rattle.std.specs.String.{string_bytes}
use Rattle.sc_app.proofs.TextLemmas.{text_by, six_pieces}
use Rattle.sc_app.proofs.texts.limit_text.Goals as goal

pub returns : goal.returns
returns c =
    text_by string_bytes c.format.result _ _
    (six_pieces (codes "task limit: stage ") (decimal c.args.stage) (codes " attempt ")
    (decimal c.args.attempt) (codes " partition ")
    (decimal c.args.partition)) c.format.ensures.ok
