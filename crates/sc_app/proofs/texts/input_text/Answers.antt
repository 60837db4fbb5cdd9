use Rattle.std.proofs.Common.{ap, ◌∙◌, List, ℕ, ◌++◌}
use Rattle.std.specs.Prelude.{codes}
use Rattle.std.specs.String.{string_bytes}
use Rattle.sc_app.specs.FaultTexts.{missing_text}
use Rattle.sc_app.proofs.TextLemmas.{text_by, four_pieces}
use Rattle.sc_app.proofs.texts.input_text.Goals as goal

pub returns : goal.returns
returns c =
    text_by string_bytes c.format.result _ _
    (ap (λ (n : List ℕ). codes "input: " ++ (n ++
    (codes ": " ++ c.cause_of_input-cause.result.now))) c.as_str-name.ensures
    ∙ four_pieces (codes "input: ") c.args.name.now (codes ": ") c.cause_of_input-cause.result.now
    (missing_text c.args.missing)
    c.cause_of_input-cause.ensures) c.format.ensures.ok
