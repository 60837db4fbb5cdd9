use Rattle.std.proofs.Common.{◌∙◌, ap, sym}
use Rattle.std.specs.Prelude.{replicate}
use Rattle.sc_value.specs.Datum.{number}
use Rattle.sc_value.specs.Views.{datum_of}
use Rattle.sc_batch.proofs.ZipLemmas.{map-replicate}
use Rattle.sc_batch.proofs.items.ints_of.Goals as goal

pub returns-in-Some-int_in : goal.returns-in-Some-int_in
returns-in-Some-int_in c =
    let n = c.len.result in
    c.in-Some-as_repeated.ensures
    ∙ ap (λ k. replicate k (datum_of c.in-Some-as_repeated.value.now)) (sym c.len.ensures)
    ∙ ap (replicate n) c.in-Some-int_in.ensures
    ∙ map-replicate number n c.in-Some-int_in.n.now
