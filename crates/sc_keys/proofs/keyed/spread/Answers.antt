use Rattle.std.proofs.Common.{◌∙◌, ap, ap₂, length, sym, replicate}
use Rattle.sc_keys.specs.Keyed.{key_in, keys_in}
use Rattle.sc_value.specs.Views.{datum_of}
use Rattle.sc_keys.proofs.KeyLemmas.{map-replicate}
use Rattle.sc_keys.proofs.keyed.spread.Goals as goal

pub returns-in_ok-out-in-Some : goal.returns-in_ok-out-in-Some
returns-in_ok-out-in-Some c =
    let d = datum_of c.in-Some.value.now in
    c.in_ok-out-in-Some.ensures
    ∙ ap₂ replicate c.len.ensures
    (c.key_of-key.ensures ∙ ap key_in c.in_ok-copy-in-Some.ensures)
    ∙ sym (map-replicate key_in (length c.args.rows.now) d)
    ∙ ap keys_in (sym c.in-Some.ensures)
