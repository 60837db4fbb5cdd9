use Rattle.std.proofs.Common.{◌≡◌, ◌∙◌, ap, map, sym}
use Rattle.sc_keys.specs.Keyed.{keys_in}
use Rattle.sc_value.specs.Datum.{text}
use Rattle.sc_value.specs.Keys.{text_key}
use Rattle.sc_keys.proofs.KeyLemmas.{IfSome-weaker, keys-text}
use Rattle.sc_keys.proofs.keyed.Keys.texts.Goals as goal

pub returns : goal.returns
returns c =
    IfSome-weaker c.as_texts.result (λ t. c.self.inside.rows ≡ map text t.now)
    (λ t. c.args.self.now ≡ map text_key t.now)
    (λ t is. sym c.self.view_is ∙ ap keys_in is ∙ keys-text t.now) c.as_texts.ensures
