use Rattle.std.proofs.Common.{◌∙◌, ap, sym, map}
use Rattle.std.specs.Prelude.{replicate}
use Rattle.sc_value.specs.Datum.{number}
use Rattle.sc_batch.specs.Items.{list_in}
use Rattle.sc_batch.proofs.ZipLemmas.{map-replicate}
use Rattle.sc_batch.proofs.picks.place_of.Goals as goal

pub returns-in-Some : goal.returns-in-Some
returns-in-Some c =
    let n = c.in-Some-Same.rows in
    c.in-Some-Same.ensures ∙ ap (λ v. map number (list_in v)) c.in-Some-Same.field-0-is
    ∙ sym (map-replicate number n c.in-Some-Same.n.now)
    ∙ ap (λ z. replicate n (number z)) c.in-Some.ensures
