use Rattle.std.proofs.Common.{◌∙◌, ap, sym}
use Rattle.sc_value.specs.Datum.{text}
use Rattle.sc_value.specs.Views.{datum_of}
use Rattle.sc_columns.proofs.ListLemmas.{copies_behind}
use Rattle.sc_columns.proofs.VariantLemmas.{at-Same, datum_of-Text}
use Rattle.sc_columns.proofs.adds.add_texts.Goals as goal

pub returns-in_ok-push_copies-in-Text : goal.returns-in_ok-push_copies-in-Text
returns-in_ok-push_copies-in-Text c =
    copies_behind text c.args.out.now c.push_copies.new.self c.as_str.result.now
    (datum_of c.in-Same.value.value) c.in-Same.n _
    c.in_ok-push_copies-in-Text.ensures
    (at-Same c.args.column.now c.in-Same.value c.in-Same.n c.in-Same.is)
    (ap datum_of (sym c.deref.ensures ∙ c.in-Text.is) ∙ datum_of-Text c.in-Text.t
    ∙ ap text (sym c.as_str.ensures))
