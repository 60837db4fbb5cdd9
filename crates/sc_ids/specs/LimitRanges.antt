-- The ranges of the limits of a run.
use Rattle.std.specs.Prelude.{ℕ, ◌≤◌}
use Rattle.sc_ids.specs.declared.limits.Limits.{Limits}

-- a number is in a range
pub record IsWithin (least most n : ℕ) : Type 0 where
  pub above : least ≤ n
  pub below : n ≤ most

-- each limit is in its range; how many tasks a job may hand out has none
pub record AreLimits (limits : Limits) : Type 0 where
  pub task_failures : IsWithin 1 16 limits.task_failures
  pub stage_attempts : IsWithin 1 16 limits.stage_attempts
  pub executors : IsWithin 1 64 limits.executors
  pub cache : IsWithin 1 4096 limits.cache
