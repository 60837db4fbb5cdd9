use Rattle.sc_bound.proofs.EventSteps.{steps_keep_accounts}
use Rattle.sc_bound.proofs.EventSteps as steps
use Rattle.sc_bound.proofs.LeftLemmas.{left_is_bounded, left_is_needed}
use Rattle.sc_bound.proofs.laws.accounts_are_kept.Goals as goal

pub returns-clause-steps : goal.returns-clause-steps
returns-clause-steps c = steps_keep_accounts

pub returns-clause-journals : goal.returns-clause-journals
returns-clause-journals c = steps.accounts_are_kept

pub returns-clause-needed : goal.returns-clause-needed
returns-clause-needed c = left_is_needed

pub returns-clause-left : goal.returns-clause-left
returns-clause-left c = left_is_bounded
