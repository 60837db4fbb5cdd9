use Rattle.std.specs.Prelude.{codes}
use Rattle.std.specs.Fmt.{decimal}
use Rattle.std.specs.String.{string_bytes}
use Rattle.sc_app.specs.FaultTexts.{plan_kind_text}
use Rattle.sc_app.proofs.TextLemmas.{text_by, four_pieces}
use Rattle.sc_app.proofs.texts.plan_text.Goals as goal

pub returns : goal.returns
returns c =
    text_by string_bytes c.format.result _ _
    (four_pieces (codes "plan: line ") (decimal c.args.fault.line) (codes ": ")
    c.name_of_plan_kind-kind.result.now (plan_kind_text c.args.fault.kind)
    c.name_of_plan_kind-kind.ensures) c.format.ensures.ok
