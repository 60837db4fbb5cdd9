use Rattle.std.proofs.Common.{subst, sym}
use Rattle.crossbeam_queue.specs.Passes.{view}
use Rattle.sc_queue.specs.Rule.{AreDelivered, joined_of, popped_of}
use Rattle.sc_queue.proofs.PopLemmas.{delivered_whole, learns}
use Rattle.sc_queue.proofs.drivers.is_idle.Goals as goal

pub is_empty_as-requires-clause-rule : goal.is_empty_as-requires-clause-rule
is_empty_as-requires-clause-rule g c = learns _ _ c.requires.driver

pub returns-clause-empty : goal.returns-clause-empty
returns-clause-empty g c = λ is.
    subst (λ v. AreDelivered (popped_of v) (joined_of v)) (sym c.is_empty_as.ensures.queue.1)
    (delivered_whole (view c.args.pass.now) c.requires.driver (c.is_empty_as.ensures.rule is))
