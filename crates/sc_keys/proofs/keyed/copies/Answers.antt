use Rattle.std.proofs.Common.{◌≡◌, ◌∙◌, ◌++◌, ap₂, replicate, [], ◌∷◌}
use Rattle.std.proofs.lemmas.Result.{IfOk-weaker}
use Rattle.sc_value.specs.Picked.{picked}
use Rattle.sc_keys.proofs.KeyLemmas.{picked-first}
use Rattle.sc_keys.proofs.keyed.copies.Goals as goal

pub returns : goal.returns
returns c =
    let t = c.args.text.now in
    let places = c.deref.ensures.value
    ∙ c.in_ok-places.ensures.items_if_clones_equal (λ _ same. same) in
    let one = c.in_ok-one.ensures ∙ c.in_ok-push.ensures.texts
    ∙ ap₂ (λ ts rest. ts ++ (rest ++ t) ∷ []) c.new-one.ensures.texts
    c.new-one.ensures.open_text in
    IfOk-weaker c.picked.result (λ ts. ts ≡ picked c.in_ok-one.one c.deref.result.now)
    (λ ts. ts ≡ replicate c.args.n t)
    (λ ts is. is ∙ ap₂ picked one places ∙ picked-first t [] c.args.n) c.picked.ensures
