use Rattle.std.proofs.Common.{◌∙◌, None, ap, map}
use Rattle.std.proofs.lemmas.List.{with_items_is}
use Rattle.sc_core.proofs.kept.forget_all.Goals as goal

pub returns : goal.returns
returns c =
    with_items_is c.args.lists.now c.forget_each.new.lists
    (c.forget_each.auto.lists ∙ c.as_mut_slice.ensures.len)
    ∙ c.forget_each.ensures
    ∙ ap (map (λ _. None)) c.as_mut_slice.ensures.value
