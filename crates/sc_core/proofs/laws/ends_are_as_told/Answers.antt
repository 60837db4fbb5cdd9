use Rattle.sc_core.proofs.EndLemmas.{no_executors_are_left, stage_limits_are_reached}
use Rattle.sc_core.proofs.LawLemmas.{task_limits_are_reached}
use Rattle.sc_core.proofs.LimitLemmas.{done_jobs_are_whole}
use Rattle.sc_core.proofs.laws.ends_are_as_told.Goals as goal

pub returns-clause-done : goal.returns-clause-done
returns-clause-done c = done_jobs_are_whole

pub returns-clause-task_limit : goal.returns-clause-task_limit
returns-clause-task_limit c = task_limits_are_reached

pub returns-clause-stage_limit : goal.returns-clause-stage_limit
returns-clause-stage_limit c = stage_limits_are_reached

pub returns-clause-no_executor : goal.returns-clause-no_executor
returns-clause-no_executor c = no_executors_are_left
