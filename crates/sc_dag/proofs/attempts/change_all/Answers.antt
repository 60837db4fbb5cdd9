use Rattle.std.proofs.Common.{◌∙◌, ap, map}
use Rattle.std.proofs.lemmas.List.{with_items_is}
use Rattle.sc_dag.specs.Changes.{attempt_by}
use Rattle.sc_dag.proofs.attempts.change_all.Goals as goal

pub returns-clause-items : goal.returns-clause-items
returns-clause-items c =
    with_items_is c.args.attempts.now c.change_each.new.attempts
    (c.change_each.auto.attempts ∙ c.as_mut_slice.ensures.len)
    ∙ c.change_each.ensures
    ∙ ap (map (attempt_by c.args.change)) c.as_mut_slice.ensures.value
