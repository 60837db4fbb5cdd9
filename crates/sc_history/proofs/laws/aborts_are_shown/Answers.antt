use Rattle.sc_history.proofs.LossLemmas.{no_executors_are_shown}
use Rattle.sc_history.proofs.StageLimitLemmas.{stage_limits_are_shown}
use Rattle.sc_history.proofs.TaskLimitLemmas.{task_limits_are_shown}
use Rattle.sc_history.proofs.laws.aborts_are_shown.Goals as goal

pub returns-clause-task_limit : goal.returns-clause-task_limit
returns-clause-task_limit c = task_limits_are_shown

pub returns-clause-stage_limit : goal.returns-clause-stage_limit
returns-clause-stage_limit c = stage_limits_are_shown

pub returns-clause-no_executor : goal.returns-clause-no_executor
returns-clause-no_executor c = no_executors_are_shown
