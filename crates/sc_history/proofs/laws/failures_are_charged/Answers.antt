use Rattle.sc_history.proofs.ChargedLemmas.{failed_attempts_are_charged, steps_charge}
use Rattle.sc_history.proofs.laws.failures_are_charged.Goals as goal

pub returns-clause-steps : goal.returns-clause-steps
returns-clause-steps c = steps_charge

pub returns-clause-journals : goal.returns-clause-journals
returns-clause-journals c = failed_attempts_are_charged
