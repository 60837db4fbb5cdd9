use Rattle.sc_bound.proofs.EventLemmas.{epochs_are_planned}
use Rattle.sc_bound.proofs.TrustLemmas.{events_are_planned, losses_are_planned as all_planned}
use Rattle.sc_bound.proofs.laws.losses_are_planned.Goals as goal

pub returns-clause-lost : goal.returns-clause-lost
returns-clause-lost c = all_planned

pub returns-clause-events : goal.returns-clause-events
returns-clause-events c = events_are_planned

pub returns-clause-cores : goal.returns-clause-cores
returns-clause-cores c = epochs_are_planned
