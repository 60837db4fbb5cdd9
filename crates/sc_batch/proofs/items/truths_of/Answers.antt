use Rattle.std.proofs.Common.{◌∙◌, ap, sym}
use Rattle.std.specs.Prelude.{replicate}
use Rattle.sc_value.specs.Datum.{truth}
use Rattle.sc_value.specs.Views.{datum_of}
use Rattle.sc_batch.proofs.ZipLemmas.{map-replicate}
use Rattle.sc_batch.proofs.items.truths_of.Goals as goal

pub returns-in-Some-truth_in : goal.returns-in-Some-truth_in
returns-in-Some-truth_in c =
    let n = c.len.result in
    c.in-Some-as_repeated.ensures
    ∙ ap (λ k. replicate k (datum_of c.in-Some-as_repeated.value.now)) (sym c.len.ensures)
    ∙ ap (replicate n) c.in-Some-truth_in.ensures
    ∙ map-replicate truth n c.in-Some-truth_in.b.now
