-- Which reports a journal tells.
use Rattle.std.specs.Prelude.{◌≡◌, All, Contains, List, [], ◌∷◌, ◌++◌, Bool, true, false, Option, Some, None}
use Rattle.sc_ids.specs.declared.attempts.AttemptId.{AttemptId}
use Rattle.sc_core.specs.CoreData.{CoreData, shelved_of}
use Rattle.sc_core.specs.Journals.{Replays}
use Rattle.sc_core.specs.declared.answers.Answer.{Answer}
use Rattle.sc_core.specs.declared.answers.Answer.TheVariants as says
use Rattle.sc_core.specs.declared.entries.Entry.{Entry}
use Rattle.sc_core.specs.declared.events.Event.{Event}
use Rattle.sc_core.specs.declared.events.Event.TheVariants.{Post, Release}
use Rattle.sc_core.specs.declared.events.Outcome.{Outcome}
use Rattle.sc_core.specs.declared.running.Shelved.{Shelved}

-- a report: of which attempt it is, how that ended, and what was answered
pub record Telling : Type 0 where
  pub attempt : AttemptId
  pub outcome : Outcome
  pub answer : Answer

abbrev pub telling : AttemptId → Outcome → Answer → Telling
telling attempt outcome answer =
    record { attempt = attempt; outcome = outcome; answer = answer }

-- a report was heard: it was told to its attempt, which ran, in a job that ran
abbrev pub is_heard : Answer → Bool
is_heard says.Ignored = false
is_heard says.Shelved = false
is_heard (says.Side said) = false
is_heard answer = true

-- a report that was to be told later
abbrev pub told_late : Option Shelved → Answer → List Telling
told_late None answer = []
told_late (Some s) answer = telling s.attempt s.outcome answer ∷ []

-- the report that an event in a state is of, if any: one that is posted, or that is told late
abbrev pub tellings_in : CoreData → Event → Answer → List Telling
tellings_in c (Post attempt outcome) answer = telling attempt outcome answer ∷ []
tellings_in c (Release key) answer = told_late (shelved_of c key) answer
tellings_in c event answer = []

-- those that the entries of a journal are of, in order
abbrev pub tellings : (opening : CoreData) (entries : List Entry) (end : CoreData)
    → Replays opening entries end → List Telling
tellings opening [] end is = []
tellings opening (entry ∷ entries) end (mid, step, rest) =
    tellings_in opening entry.event entry.answer ++ tellings mid entries end rest

-- an entry posts this report
abbrev pub IsPosted : List Entry → Telling → Type 0
IsPosted entries t =
    (entry : Entry) × Contains entries entry × (entry.event ≡ Post t.attempt t.outcome)

-- A report that is heard stands in an entry that posts it, also where another entry tells it late.
-- The same holds of each first part of a journal, so that entry isn't behind the one that tells it.
abbrev pub ReportsArePosted : Type 0
ReportsArePosted =
    (opening end : CoreData) (entries : List Entry) → opening.shelf ≡ []
    → (replays : Replays opening entries end)
    → All (λ t. is_heard t.answer ≡ true → IsPosted entries t)
    (tellings opening entries end replays)
