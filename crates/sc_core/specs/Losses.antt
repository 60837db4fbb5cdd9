-- What is answered where an executor is told lost, and what that leaves.
use Rattle.std.specs.Prelude.{ℕ, ◌≡◌, ◌==◌, ◌&&◌, not, List, [], ◌∷◌, Bool, true, false, Option, Some, None, if◌then◌else◌, filter, map, nat_le, slice_get}
use Rattle.sc_commit.specs.declared.committers.Ending.TheVariants as endings
use Rattle.sc_dag.specs.Losses.{after_lost}
use Rattle.sc_ids.specs.declared.attempts.AttemptId.{AttemptId}
use Rattle.sc_plan.specs.Orders.{loss_of}
use Rattle.sc_tracker.specs.Trust.{are_lost, is_live}
use Rattle.sc_core.specs.CoreData.{CoreData, ended, job_runs, with_dag}
use Rattle.sc_core.specs.Tells.{released}
use Rattle.sc_core.specs.declared.answers.Abort.TheVariants.{NoExecutor}
use Rattle.sc_core.specs.declared.answers.Answer.{Answer}
use Rattle.sc_core.specs.declared.answers.Answer.TheVariants as says
use Rattle.sc_core.specs.declared.answers.JobState.TheVariants as jobs
use Rattle.sc_core.specs.declared.running.Running.{Running}

-- as many reports were told as come before a loss, where there is one
abbrev pub is_due_after : Option ℕ → ℕ → Bool
is_due_after None told = false
is_due_after (Some due) told = nat_le due told

-- an executor may be told lost: the job runs, the executor is there and wasn't told lost, and the
-- plan loses it once so many reports were told
abbrev pub may_be_lost : CoreData → ℕ → Bool
may_be_lost c exec =
    job_runs c
    && (is_live (slice_get c.dag.tracker.trust exec) && is_due_after (loss_of c.plan exec) c.told)

-- attempts end with their executor, and the grants that they held are freed
abbrev pub all_released : List AttemptId → CoreData → CoreData
all_released [] c = c
all_released (a ∷ these) c = all_released these (released c a endings.Failed)

abbrev pub runs_on : ℕ → Running → Bool
runs_on exec r = r.exec == exec

-- the attempts that run on an executor
abbrev pub attempts_on : ℕ → List Running → List AttemptId
attempts_on exec running = map (λ r. r.hand_out.attempt) (filter (runs_on exec) running)

-- the attempt that may run on it, of one that may be there
abbrev pub attempt_on : ℕ → Option Running → Option AttemptId
attempt_on exec None = None
attempt_on exec (Some r) = if runs_on exec r then Some r.hand_out.attempt else None

-- it ends with its executor
abbrev pub released_one : Option AttemptId → CoreData → CoreData
released_one None c = c
released_one (Some a) c = released c a endings.Failed

abbrev pub released_at : ℕ → Option Running → CoreData → CoreData
released_at exec o c = released_one (attempt_on exec o) c

-- what a loss leaves: the outputs there are forgotten, what ran there runs no more, also in the
-- task sets, and map tasks that were finished there are to be done again
abbrev pub without_executor : CoreData → ℕ → CoreData
without_executor c exec =
    record (all_released (attempts_on exec c.running) (with_dag c (after_lost c.dag exec))) {
      running = filter (λ r. not (runs_on exec r)) c.running;
    }

-- where it was the last executor the job is aborted
abbrev pub LosesOrAborts : Bool → CoreData → Answer → CoreData → Type 0
LosesOrAborts true next answer after =
    (answer ≡ says.Aborted NoExecutor) × (after ≡ ended next (jobs.Aborted NoExecutor))
LosesOrAborts false next answer after = (answer ≡ says.Told) × (after ≡ next)

abbrev pub Loses : CoreData → ℕ → Answer → CoreData → Type 0
Loses c exec answer after =
    (may_be_lost c exec ≡ true)
    × LosesOrAborts (are_lost (without_executor c exec).dag.tracker.trust) (without_executor c exec)
    answer after
