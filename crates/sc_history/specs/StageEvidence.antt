-- What a journal shows of an abort for the failed attempts of a stage.
use Rattle.std.specs.Prelude.{ℕ, ◌==◌, ◌≤◌, ◌≡◌, ◌≢◌, ◌&&◌, Bool, true, false, List, [], ◌∷◌, ◌++◌, All, Contains, Option, length, map}
use Rattle.std.specs.List.{AllPairs}
use Rattle.sc_ids.specs.Graphs.{StageData}
use Rattle.sc_ids.specs.declared.limits.Limits.{Limits}
use Rattle.sc_plan.specs.declared.lines.PlanLine.{PlanLine}
use Rattle.sc_dag.specs.Outputs.{is_complete}
use Rattle.sc_core.specs.CoreData.{CoreData}
use Rattle.sc_core.specs.Journals.{Replays}
use Rattle.sc_core.specs.Openings.{IsOpening}
use Rattle.sc_core.specs.Rooms.{may_resubmit}
use Rattle.sc_core.specs.Sound.{IsSoundCore}
use Rattle.sc_core.specs.declared.answers.Abort.TheVariants.{StageLimit}
use Rattle.sc_core.specs.declared.answers.JobState.TheVariants as jobs
use Rattle.sc_core.specs.declared.entries.Entry.{Entry}
use Rattle.sc_core.specs.declared.events.Outcome.{Outcome}
use Rattle.sc_core.specs.declared.events.Outcome.TheVariants as outcomes
use Rattle.sc_history.specs.Tellings.{Telling, is_heard, tellings}

-- a report tells that an input was gone, or had no location
abbrev pub misses : Outcome → Bool
misses (outcomes.Failed cause) = may_resubmit cause
misses outcome = false

-- it is of an attempt of a stage
abbrev pub is_miss_of : ℕ → Telling → Bool
is_miss_of stage t = (t.attempt.stage == stage) && (misses t.outcome && is_heard t.answer)

-- which attempt of its stage a report is of
abbrev pub number_of : Telling → ℕ
number_of t = t.attempt.stage_attempt

-- from a state these entries leave another one, and after none of them a stage is complete
abbrev pub StaysOpen : (stage : ℕ) (c : CoreData) (entries : List Entry) (end : CoreData)
    → Replays c entries end → Type 0
StaysOpen stage c [] end is = Unit {0}
StaysOpen stage c (entry ∷ entries) end (mid, step, rest) =
    (is_complete mid.dag stage ≡ false) × StaysOpen stage mid entries end rest

-- As many attempts of a stage failed as are allowed, while it was never complete.
pub record ShowsStageLimit (limits : Limits) (opening : CoreData) (entries : List Entry)
    (end : CoreData) (stage : ℕ) : Type 0 where
  -- of a journal the last part
  pub before : List Entry
  pub since : List Entry
  pub parts : entries ≡ before ++ since
  pub mid : CoreData
  pub leads : Replays opening before mid
  pub ends : Replays mid since end
  -- in which the stage is complete after no entry
  pub open_since : StaysOpen stage mid since end ends
  -- tells reports
  pub failures : List Telling
  pub among : All (Contains (tellings mid since end ends)) failures
  -- of an input of the stage that was gone, or had no location
  pub are : All (λ t. is_miss_of stage t ≡ true) failures
  -- no two of one attempt of it
  pub apart : AllPairs (λ m n. m ≢ n) (map number_of failures)
  -- and as many as are allowed
  pub many : limits.stage_attempts ≤ length failures

-- a job that is aborted for the failed attempts of a stage shows them
abbrev pub StageLimitsAreShown : Type 0
StageLimitsAreShown =
    (graph : List StageData) (limits : Limits) (saves : Bool) (plan : List PlanLine)
    (last : Option CoreData) (opening end : CoreData) (entries : List Entry) (stage : ℕ)
    → IsOpening graph limits saves plan last opening → IsSoundCore opening
    → Replays opening entries end → end.job ≡ jobs.Aborted (StageLimit stage)
    → ShowsStageLimit limits opening entries end stage
