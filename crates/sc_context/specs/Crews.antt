-- The executors of a job before it begins.
use Rattle.std.specs.Prelude.{ℕ, ◌≡◌, ◌≤◌, [], All, length, vec_capacity}
use Rattle.sc_exec.specs.Workers.{AreInPlace}
use Rattle.sc_exec.specs.Working.{IsFresh}
use Rattle.sc_context.specs.declared.crews.Crew.{Crew}

-- so many executors, each at its place, that have written nothing down, with room for what they
-- will have written and for why each will take no more tasks
pub record IsCrew (executors : ℕ) (c : Crew) : Type 0 where
  pub fresh : All (IsFresh executors) c.workers.items
  pub places : AreInPlace executors c.workers.items
  pub no_logs : c.logs.items ≡ []
  pub no_lefts : c.lefts.items ≡ []
  pub log_room : length c.workers.items ≤ vec_capacity c.logs
  pub left_room : length c.workers.items ≤ vec_capacity c.lefts
