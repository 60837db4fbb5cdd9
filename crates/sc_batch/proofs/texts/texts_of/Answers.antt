use Rattle.std.proofs.Common.{◌∙◌, ap, sym}
use Rattle.std.specs.Prelude.{replicate}
use Rattle.sc_value.specs.Datum.{text}
use Rattle.sc_value.specs.Views.{datum_of}
use Rattle.sc_batch.proofs.ZipLemmas.{map-replicate}
use Rattle.sc_batch.proofs.texts.texts_of.Goals as goal

pub returns-in-Some-text_in : goal.returns-in-Some-text_in
returns-in-Some-text_in c =
    let n = c.len.result in
    c.in-Some-as_repeated.ensures
    ∙ ap (λ k. replicate k (datum_of c.in-Some-as_repeated.value.now)) (sym c.len.ensures)
    ∙ ap (replicate n) c.in-Some-text_in.ensures
    ∙ map-replicate text n c.in-Some-text_in.text.now
