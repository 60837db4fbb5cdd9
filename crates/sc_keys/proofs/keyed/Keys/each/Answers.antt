use Rattle.std.proofs.Common.{◌∙◌, ap, map, ◌∷◌, []}
use Rattle.std.proofs.lemmas.List.{map-append}
use Rattle.sc_value.specs.Views.{datum_of, key_data_of}
use Rattle.sc_keys.proofs.KeyLemmas.{key_more}
use Rattle.sc_keys.proofs.keyed.Keys.each.Goals as goal

pub loop-i-preserved : goal.loop-i-preserved
loop-i-preserved c =
    key_more c.self.inside.rows c.args.self.now c.loop-i.i (datum_of c.in_ok-row.field-0)
    (key_data_of c.key_of.result) (map key_data_of c.loop-i.out.items)
    (map key_data_of c.push.new.self.items) c.self.view_is c.in_ok-row.ensures
    c.key_of.ensures c.loop-i.invariant
    (ap (map key_data_of) c.in_ok-push.ensures.items
    ∙ map-append key_data_of c.loop-i.out.items (c.key_of.result ∷ []))
