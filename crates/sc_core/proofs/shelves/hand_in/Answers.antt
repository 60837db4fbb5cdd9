use Rattle.std.proofs.Common.{◌∙◌, ap, map}
use Rattle.std.proofs.lemmas.List.{with_items_is}
use Rattle.sc_core.specs.CoreData.{as_in}
use Rattle.sc_core.proofs.shelves.hand_in.Goals as goal

pub returns : goal.returns
returns c =
    with_items_is c.args.running.now c.hand_in_each.new.running
    (c.hand_in_each.auto.running ∙ c.as_mut_slice.ensures.len)
    ∙ c.hand_in_each.ensures
    ∙ ap (map (as_in c.args.attempt)) c.as_mut_slice.ensures.value
