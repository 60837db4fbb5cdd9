use Rattle.std.proofs.Common.{◌∙◌, ap, map}
use Rattle.std.proofs.lemmas.List.{with_items_is}
use Rattle.sc_core.specs.Saving.{as_far}
use Rattle.sc_core.proofs.saving.take_to.Goals as goal

pub returns : goal.returns
returns c =
    with_items_is c.args.running.now c.take_each_to.new.running
    (c.take_each_to.auto.running ∙ c.as_mut_slice.ensures.len)
    ∙ c.take_each_to.ensures
    ∙ ap (map (as_far c.args.attempt c.args.phase)) c.as_mut_slice.ensures.value
