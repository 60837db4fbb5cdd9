-- Which reports count toward an abort, and what a journal shows of one.
use Rattle.std.specs.Prelude.{ℕ, ◌==◌, ◌≤◌, ◌≡◌, ◌≢◌, ◌&&◌, Bool, true, false, List, All, Contains, Option, length, map}
use Rattle.std.specs.List.{AllPairs}
use Rattle.sc_ids.specs.Failures.{is_counted}
use Rattle.sc_ids.specs.Graphs.{StageData}
use Rattle.sc_ids.specs.declared.attempts.AttemptId.{AttemptId}
use Rattle.sc_ids.specs.declared.limits.Limits.{Limits}
use Rattle.sc_plan.specs.declared.lines.PlanLine.{PlanLine}
use Rattle.sc_core.specs.CoreData.{CoreData}
use Rattle.sc_core.specs.Journals.{Replays}
use Rattle.sc_core.specs.Openings.{IsOpening}
use Rattle.sc_core.specs.Sound.{IsSoundCore}
use Rattle.sc_core.specs.declared.answers.Abort.TheVariants.{TaskLimit}
use Rattle.sc_core.specs.declared.answers.JobState.TheVariants as jobs
use Rattle.sc_core.specs.declared.entries.Entry.{Entry}
use Rattle.sc_core.specs.declared.events.Outcome.{Outcome}
use Rattle.sc_core.specs.declared.events.Outcome.TheVariants as outcomes
use Rattle.sc_history.specs.Tellings.{Telling, is_heard, tellings}

-- a report is of a failure that counts toward the limit of its partition
abbrev pub counts : Outcome → Bool
counts (outcomes.Failed cause) = is_counted cause
counts outcome = false

-- an attempt is of a partition, in a stage attempt
abbrev pub is_of_task : ℕ → ℕ → ℕ → AttemptId → Bool
is_of_task stage number partition a =
    (a.stage == stage) && ((a.stage_attempt == number) && (a.partition == partition))

-- a report tells that an attempt of a partition failed, in a stage attempt
abbrev pub is_failure_of : ℕ → ℕ → ℕ → Telling → Bool
is_failure_of stage number partition t =
    is_of_task stage number partition t.attempt && (counts t.outcome && is_heard t.answer)

-- which attempt of its partition a report is of
abbrev pub nth_of : Telling → ℕ
nth_of t = t.attempt.nth

-- A partition failed as often as is allowed in one attempt of its stage.
pub record ShowsTaskLimit (limits : Limits) (told : List Telling) (stage number partition : ℕ)
    : Type 0 where
  -- some reports
  pub failures : List Telling
  pub among : All (Contains told) failures
  -- are of failures of the partition, and count
  pub are : All (λ t. is_failure_of stage number partition t ≡ true) failures
  -- no two of one attempt
  pub apart : AllPairs (λ m n. m ≢ n) (map nth_of failures)
  -- and as many as are allowed
  pub many : limits.task_failures ≤ length failures

-- a job that is aborted for the failures of a partition shows them
abbrev pub TaskLimitsAreShown : Type 0
TaskLimitsAreShown =
    (graph : List StageData) (limits : Limits) (saves : Bool) (plan : List PlanLine)
    (last : Option CoreData) (opening end : CoreData) (entries : List Entry)
    (stage number partition : ℕ) → IsOpening graph limits saves plan last opening
    → IsSoundCore opening → (replays : Replays opening entries end)
    → end.job ≡ jobs.Aborted (TaskLimit stage number partition)
    → ShowsTaskLimit limits (tellings opening entries end replays) stage number partition
