use Rattle.std.proofs.Common.{◌≡◌, ◌∙◌, ap, map, sym}
use Rattle.sc_keys.specs.Keyed.{keys_in}
use Rattle.sc_value.specs.Datum.{number}
use Rattle.sc_value.specs.Keys.{number_key}
use Rattle.sc_keys.proofs.KeyLemmas.{IfSome-weaker, keys-number}
use Rattle.sc_keys.proofs.keyed.Keys.ints.Goals as goal

pub returns : goal.returns
returns c =
    IfSome-weaker c.as_ints.result (λ s. c.self.inside.rows ≡ map number s.now)
    (λ s. c.args.self.now ≡ map number_key s.now)
    (λ s is. sym c.self.view_is ∙ ap keys_in is ∙ keys-number s.now) c.as_ints.ensures
