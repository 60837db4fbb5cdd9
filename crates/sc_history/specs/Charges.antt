-- To which events the failed attempts of a stage are charged.
use Rattle.std.specs.Prelude.{ℕ, ◌==◌, ◌<◌, ◌≤◌, ◌≡◌, ◌≢◌, ◌&&◌, Bool, true, false, List, [], ◌∷◌, ◌++◌, All, IsSomeAnd, Option, Some, map}
use Rattle.std.specs.List.{AllPairs, filter}
use Rattle.sc_ids.specs.declared.attempts.AttemptId.{AttemptId}
use Rattle.sc_dag.specs.DagData.{DagData}
use Rattle.sc_dag.specs.Offers.{newest_number}
use Rattle.sc_core.specs.CoreData.{CoreData}
use Rattle.sc_core.specs.Journals.{Replays}
use Rattle.sc_core.specs.Sound.{IsSoundCore, born_of}
use Rattle.sc_core.specs.Steps.{Steps}
use Rattle.sc_core.specs.declared.answers.Abort.TheVariants.{StageLimit}
use Rattle.sc_core.specs.declared.answers.Answer.{Answer}
use Rattle.sc_core.specs.declared.answers.Answer.TheVariants as says
use Rattle.sc_core.specs.declared.entries.Entry.{Entry}
use Rattle.sc_core.specs.declared.events.Event.{Event}
use Rattle.sc_core.specs.declared.events.Outcome.{Outcome}
use Rattle.sc_history.specs.Tellings.{Telling, telling, tellings_in}

-- an attempt of a stage has failed: the stage is submitted again, or it failed too often
abbrev pub fails_stage : Answer → Bool
fails_stage says.Resubmitted = true
fails_stage (says.Aborted (StageLimit stage)) = true
fails_stage answer = false

-- The report of an event says that the newest attempt of a stage has failed, and an event came
-- since its task set was born.
pub record FailsStageBy (c after : CoreData) (event : Event) (answer : Answer) : Type 0 where
  pub attempt : AttemptId
  pub outcome : Outcome
  pub told : tellings_in c event answer ≡ telling attempt outcome answer ∷ []
  pub newest : attempt.stage_attempt ≡ newest_number c.dag attempt.stage
  pub born : ℕ
  pub is_born : born_of c.dag attempt ≡ Some born
  pub charged : born < after.dag.tracker.epoch

-- a stage fails only so
abbrev pub StepsCharge : Type 0
StepsCharge =
    (c after : CoreData) (event : Event) (answer : Answer) → IsSoundCore c
    → Steps c event answer after → fails_stage answer ≡ true → FailsStageBy c after event answer

-- a failed attempt of a stage: its number, the epoch in which its task set was born, and the one in
-- which it was told
pub record Charge : Type 0 where
  pub number : ℕ
  pub born : Option ℕ
  pub epoch : ℕ

abbrev pub charge_of : DagData → ℕ → Telling → Charge
charge_of d epoch t =
    record { number = t.attempt.stage_attempt; born = born_of d t.attempt; epoch = epoch }

-- a report says that an attempt of this stage has failed
abbrev pub is_charge_of : ℕ → Telling → Bool
is_charge_of stage t = (t.attempt.stage == stage) && fails_stage t.answer

-- the failed attempts of a stage that a journal tells, also those that count no more
abbrev pub charges_of : (stage : ℕ) (opening : CoreData) (entries : List Entry) (end : CoreData)
    → Replays opening entries end → List Charge
charges_of stage opening [] end is = []
charges_of stage opening (entry ∷ entries) end (mid, step, rest) =
    map (charge_of opening.dag mid.dag.tracker.epoch)
    (filter (is_charge_of stage) (tellings_in opening entry.event entry.answer))
    ++ charges_of stage mid entries end rest

-- Failed attempts of a stage are charged to events of their own: no two have one in common.
pub record HaveOwnEvents (charges : List Charge) : Type 0 where
  -- an event came after the task set was born, and before the failure was told
  pub own : All (λ x. IsSomeAnd x.born (λ b. b < x.epoch)) charges
  -- and another attempt that fails later was born no earlier
  pub apart : AllPairs (λ x y. x.number ≢ y.number → IsSomeAnd y.born (λ b. x.epoch ≤ b)) charges

-- this holds of all failed attempts of each stage in a job
abbrev pub FailedAttemptsAreCharged : Type 0
FailedAttemptsAreCharged =
    (opening end : CoreData) (entries : List Entry) (stage : ℕ) → IsSoundCore opening
    → (replays : Replays opening entries end)
    → HaveOwnEvents (charges_of stage opening entries end replays)
