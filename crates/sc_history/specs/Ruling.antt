-- What events rule out of what is known of map outputs.
use Rattle.std.specs.Prelude.{ℕ, ◌≤◌, ◌≡◌, ◌⊎◌, true, false, List}
use Rattle.sc_ids.specs.declared.blocks.BlockId.{BlockId}
use Rattle.sc_ids.specs.declared.blocks.Loc.{Loc}
use Rattle.sc_tracker.specs.Outputs.{forgotten_on}
use Rattle.sc_tracker.specs.TrackerData.{TrackerData, output_of}
use Rattle.sc_tracker.specs.TrackerLaws.{IsLaterTracker}
use Rattle.sc_tracker.specs.Tracking.{is_bogus}
use Rattle.sc_core.specs.CoreData.{CoreData}
use Rattle.sc_core.specs.Journals.{Replays}
use Rattle.sc_core.specs.Sound.{IsSoundCore}
use Rattle.sc_core.specs.Steps.{Steps}
use Rattle.sc_core.specs.declared.answers.Answer.{Answer}
use Rattle.sc_core.specs.declared.entries.Entry.{Entry}
use Rattle.sc_core.specs.declared.events.Event.{Event}
use Rattle.sc_history.specs.Trackers.{RegistersOwn, forgets}

-- no event of a core takes back what was heard of an executor, and so no journal does
abbrev pub ReplaysGoForward : Type 0
ReplaysGoForward =
    (opening end : CoreData) (entries : List Entry) → IsSoundCore opening
    → Replays opening entries end → IsLaterTracker opening.dag.tracker end.dag.tracker

-- what is bogus is bogus for the rest of a journal
abbrev pub BogusStays : Type 0
BogusStays =
    (opening end : CoreData) (entries : List Entry) (loc : Loc) (epoch : ℕ) → IsSoundCore opening
    → Replays opening entries end → is_bogus opening.dag.tracker loc epoch ≡ true
    → is_bogus end.dag.tracker loc epoch ≡ true

-- the outputs of one executor are forgotten: those that are registered there, and for good all of
-- tasks that were handed out before
pub record ForgetsAt (t after : TrackerData) : Type 0 where
  pub exec : ℕ
  pub outputs : (block : BlockId) → output_of after block ≡ forgotten_on exec (output_of t block)
  pub older : (loc : Loc) (epoch : ℕ) → loc.exec ≡ exec → epoch ≤ t.epoch
      → is_bogus after loc epoch ≡ true

-- where an event forgets outputs, they are those of one executor
abbrev pub EventsForgetAtOne : Type 0
EventsForgetAtOne =
    (c after : CoreData) (event : Event) (answer : Answer) → IsSoundCore c
    → Steps c event answer after → forgets c event answer ≡ true
    → ForgetsAt c.dag.tracker after.dag.tracker

-- and no other event forgets an output: it registers one at most
abbrev pub OthersForgetNone : Type 0
OthersForgetNone =
    (c after : CoreData) (event : Event) (answer : Answer) → IsSoundCore c
    → Steps c event answer after → forgets c event answer ≡ false
    → (after.dag.tracker ≡ c.dag.tracker) ⊎ RegistersOwn c after.dag.tracker
