use Rattle.sc_bound.proofs.EventLemmas as events
use Rattle.sc_bound.proofs.laws.failed_attempts_are_planned.Goals as goal

pub returns : goal.returns
returns c = events.failed_attempts_are_planned
