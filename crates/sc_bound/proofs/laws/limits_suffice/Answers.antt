use Rattle.sc_bound.proofs.SufficeLemmas as suffice
use Rattle.sc_bound.proofs.laws.limits_suffice.Goals as goal

pub returns-clause-stages : goal.returns-clause-stages
returns-clause-stages c = suffice.stage_attempts_suffice

pub returns-clause-executors : goal.returns-clause-executors
returns-clause-executors c = suffice.executors_suffice

pub returns-clause-budget : goal.returns-clause-budget
returns-clause-budget c = suffice.budgets_suffice
