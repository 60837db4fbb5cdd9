use Rattle.std.proofs.Common.{◌∙◌, ap}
use Rattle.sc_value.specs.Views.{datum_of}
use Rattle.std.specs.Prelude.{replicate}
use Rattle.sc_batch.proofs.ArgumentLemmas.{each-constant}
use Rattle.sc_batch.proofs.constants.constant.Goals as goal

pub returns : goal.returns
returns c =
    each-constant (datum_of c.args.value) c.args.rows.now c.in_ok-repeated.field-0 c.args.end
    (c.in_ok-repeated.ensures ∙ ap (λ n. replicate n (datum_of c.args.value)) c.len.ensures)
