-- The scheduler of one job, as plain data.
use Rattle.std.specs.Prelude.{ℕ, ◌+◌, ◌-◌, ◌^◌, ◌==◌, ◌&&◌, List, [], ◌∷◌, ◌++◌, Bool, true, false, not, Option, Some, None, if◌then◌else◌, length, map, min}
use Rattle.std.specs.List.{filter, find}
use Rattle.std.specs.Option.{option_map}
use Rattle.sc_base.specs.Counts.{counted}
use Rattle.sc_commit.specs.declared.committers.Committer.{Committer}
use Rattle.sc_commit.specs.Committing.{is_same}
use Rattle.sc_dag.specs.DagData.{DagData}
use Rattle.sc_ids.specs.declared.attempts.AttemptId.{AttemptId}
use Rattle.sc_plan.specs.declared.lines.PlanLine.{PlanLine}
use Rattle.sc_core.specs.declared.answers.JobState.{JobState}
use Rattle.sc_core.specs.declared.answers.JobState.TheVariants as jobs
use Rattle.sc_core.specs.declared.events.Outcome.{Outcome}
use Rattle.sc_core.specs.declared.running.Running.{Running}
use Rattle.sc_core.specs.declared.running.Shelved.{Shelved}

-- the scheduler of one job
pub record CoreData : Type 0 where
  -- how many reports were told in the run so far, while the count fits
  pub told : ℕ
  -- the greatest tick so far, in milliseconds
  pub now : ℕ
  -- how many tasks were handed out in this job
  pub handed : ℕ
  -- how far the job is
  pub job : JobState
  -- the first executor that left early
  pub left_first : Option ℕ
  -- the attempts that run, the one handed out first in front
  pub running : List Running
  -- the reports that are to be told later, by rising keys
  pub shelf : List Shelved
  -- the key of the next one
  pub next_key : ℕ
  -- who may commit; there are places only where the job saves
  pub committers : List Committer
  -- the stages
  pub dag : DagData
  -- the lines of the fault plan, which never change
  pub plan : List PlanLine

abbrev pub core_data : ℕ → ℕ → ℕ → JobState → Option ℕ → List Running → List Shelved → ℕ
    → List Committer → DagData → List PlanLine → CoreData
core_data told now handed job left_first running shelf next_key committers dag plan =
    record {
      told = told;
      now = now;
      handed = handed;
      job = job;
      left_first = left_first;
      running = running;
      shelf = shelf;
      next_key = next_key;
      committers = committers;
      dag = dag;
      plan = plan;
    }

abbrev pub with_dag : CoreData → DagData → CoreData
with_dag c dag = record c { dag = dag }

-- a job runs
abbrev pub is_running_job : JobState → Bool
is_running_job jobs.Running = true
is_running_job jobs.Done = false
is_running_job (jobs.Aborted why) = false

abbrev pub job_runs : CoreData → Bool
job_runs c = is_running_job c.job

-- the job has ended; what is to be told later is dropped
abbrev pub ended : CoreData → JobState → CoreData
ended c job = record c { job = job; shelf = [] }

-- the number of the result stage, which is the last
abbrev pub result_stage : DagData → ℕ
result_stage d = length d.stages - 1

-- ---- attempts that run

abbrev pub is_of : AttemptId → Running → Bool
is_of a r = is_same r.hand_out.attempt a

-- the running attempt of these numbers
abbrev pub running_of : CoreData → AttemptId → Option Running
running_of c a = find (is_of a) c.running

abbrev pub is_out_on : ℕ → Running → Bool
is_out_on exec r = r.is_out && (r.exec == exec)

-- the attempt that an executor has out
abbrev pub held_by : CoreData → ℕ → Option AttemptId
held_by c exec = option_map (λ r. r.hand_out.attempt) (find (is_out_on exec) c.running)

abbrev pub shelved_first : List Shelved → Option AttemptId
shelved_first [] = None
shelved_first (s ∷ shelf) = Some s.attempt

abbrev pub out_or : Option Running → Option AttemptId → Option AttemptId
out_or None other = other
out_or (Some r) other = Some r.hand_out.attempt

-- the attempt that is waited for: the one that is out longest, or else that of the oldest report
-- that is to be told later
abbrev pub under_way : CoreData → Option AttemptId
under_way c = out_or (find (λ r. r.is_out) c.running) (shelved_first c.shelf)

-- ---- reports that are to be told later

abbrev pub has_key : ℕ → Shelved → Bool
has_key key s = s.key == key

-- the report of a key
abbrev pub shelved_of : CoreData → ℕ → Option Shelved
shelved_of c key = find (has_key key) c.shelf

-- they without that of a key
abbrev pub without_shelved : CoreData → ℕ → CoreData
without_shelved c key = record c { shelf = filter (λ s. not (has_key key s)) c.shelf }

-- an attempt, which isn't out any more where it is this one
abbrev pub as_in : AttemptId → Running → Running
as_in a r = if is_of a r then record r { is_out = false } else r

-- when a report is due that comes so many tellings late, while the count fits
abbrev pub due_by : ℕ → ℕ → ℕ
due_by told delay = min (told + delay) (2 ^ 64 - 1)

abbrev pub to_be_told : CoreData → AttemptId → Outcome → ℕ → Shelved
to_be_told c a outcome delay =
    record {
      key = c.next_key;
      due = due_by c.told delay;
      attempt = a;
      outcome = outcome;
    }

-- a report that is to be told later: its attempt isn't out any more
abbrev pub shelved : CoreData → AttemptId → Outcome → ℕ → CoreData
shelved c a outcome delay =
    record c {
      running = map (as_in a) c.running;
      shelf = c.shelf ++ to_be_told c a outcome delay ∷ [];
      next_key = c.next_key + 1;
    }

-- the same where one is to be told at all
abbrev pub shelved_if : Bool → CoreData → AttemptId → Outcome → ℕ → CoreData
shelved_if false c a outcome delay = c
shelved_if true c a outcome delay = shelved c a outcome delay

-- ---- reports that are told

-- a report told: its attempt runs no more
abbrev pub taken_off : CoreData → AttemptId → CoreData
taken_off c a =
    record c { told = counted c.told; running = filter (λ r. not (is_of a r)) c.running }

-- a report told that is of no running attempt
abbrev pub told_once : CoreData → CoreData
told_once c = record c { told = counted c.told }
