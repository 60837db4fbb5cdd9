use Rattle.std.proofs.Common.{◌∙◌, ap, sym}
use Rattle.sc_value.specs.Datum.{text}
use Rattle.sc_columns.proofs.FindingLemmas.{found-map}
use Rattle.sc_columns.proofs.VariantLemmas.{datum_of-Text}
use Rattle.sc_columns.proofs.gets.find_text.Goals as goal

pub returns-in_ok-new : goal.returns-in_ok-new
returns-in_ok-new c =
    found-map text c.args.texts.now c.args.i c.get.result.now _ (sym c.get.ensures)
    (datum_of-Text c.in_ok-new.field-0 ∙ ap text c.in_ok-new.ensures)
