use Rattle.sc_history.proofs.BudgetLemmas.{budgets_are_shown, limits_stay}
use Rattle.sc_history.proofs.BudgetLemmas as budgets
use Rattle.sc_history.proofs.laws.hand_outs_are_counted.Goals as goal

pub returns-clause-counted : goal.returns-clause-counted
returns-clause-counted c = budgets.hand_outs_are_counted

pub returns-clause-limits : goal.returns-clause-limits
returns-clause-limits c = limits_stay

pub returns-clause-budget : goal.returns-clause-budget
returns-clause-budget c = budgets_are_shown
