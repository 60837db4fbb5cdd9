-- What runs was handed out.
use Rattle.std.specs.Prelude.{◌≡◌, true, List, [], All, Contains}
use Rattle.sc_core.specs.CoreData.{CoreData}
use Rattle.sc_core.specs.Journals.{Replays}
use Rattle.sc_core.specs.Sound.{IsSoundCore}
use Rattle.sc_core.specs.declared.answers.Answer.TheVariants as says
use Rattle.sc_core.specs.declared.entries.Entry.{Entry}
use Rattle.sc_core.specs.declared.events.Event.TheVariants.{Take}
use Rattle.sc_core.specs.declared.running.Running.{Running}
use Rattle.sc_history.specs.Tellings.{Telling, is_heard, tellings}

-- what an attempt runs with was handed out by an entry, to the executor that asked
pub record IsGiven (entries : List Entry) (r : Running) : Type 0 where
  pub entry : Entry
  pub among : Contains entries entry
  pub asked : entry.event ≡ Take r.exec
  pub task : entry.answer ≡ says.Task r.hand_out

-- Each attempt that runs was handed out by an entry. The same holds of each first part of a
-- journal, so it runs behind that entry.
abbrev pub RunningAreGiven : Type 0
RunningAreGiven =
    (opening end : CoreData) (entries : List Entry) → opening.running ≡ []
    → Replays opening entries end → All (IsGiven entries) end.running

-- a report is of an attempt that an entry hands out
pub record IsOfGiven (entries : List Entry) (t : Telling) : Type 0 where
  pub one : Running
  pub attempt : one.hand_out.attempt ≡ t.attempt
  pub given : IsGiven entries one

-- and so was the attempt of each report that is heard
abbrev pub HeardAreGiven : Type 0
HeardAreGiven =
    (opening end : CoreData) (entries : List Entry) → IsSoundCore opening → opening.running ≡ []
    → (replays : Replays opening entries end)
    → All (λ t. is_heard t.answer ≡ true → IsOfGiven entries t)
    (tellings opening entries end replays)
