use Rattle.sc_causes.proofs.LossLemmas as losses
use Rattle.sc_causes.proofs.laws.planned_losses_alone.Goals as goal

pub returns-clause-planned : goal.returns-clause-planned
returns-clause-planned c = losses.planned_losses_alone

pub returns-clause-empty : goal.returns-clause-empty
returns-clause-empty c = losses.empty_plans_lose_none
