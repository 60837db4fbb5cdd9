-- For how many outputs of each shuffle there is room.
use Rattle.std.specs.Prelude.{◌≡◌, List, length}
use Rattle.sc_ids.specs.declared.blocks.ShuffleId.{ShuffleId}
use Rattle.sc_tracker.specs.TrackerData.{TrackerData, outputs_of}
use Rattle.sc_tracker.specs.Tracking.{has_room}
use Rattle.sc_core.specs.CoreData.{CoreData}
use Rattle.sc_core.specs.Journals.{Replays}
use Rattle.sc_core.specs.Steps.{Steps}
use Rattle.sc_core.specs.declared.answers.Answer.{Answer}
use Rattle.sc_core.specs.declared.entries.Entry.{Entry}
use Rattle.sc_core.specs.declared.events.Event.{Event}

-- there is room for as many outputs of a shuffle as before, or for none as before
pub record IsSameRoom (t u : TrackerData) (shuffle : ShuffleId) : Type 0 where
  pub has : has_room u shuffle ≡ has_room t shuffle
  pub outputs : length (outputs_of u shuffle) ≡ length (outputs_of t shuffle)

-- the same of every shuffle
abbrev pub SameRoom : TrackerData → TrackerData → Type 0
SameRoom t u = (shuffle : ShuffleId) → IsSameRoom t u shuffle

abbrev pub KeepsRoom : CoreData → CoreData → Type 0
KeepsRoom c after = SameRoom c.dag.tracker after.dag.tracker

-- no event makes room or takes it
abbrev pub StepsKeepRoom : Type 0
StepsKeepRoom =
    (c after : CoreData) (event : Event) (answer : Answer) → Steps c event answer after
    → KeepsRoom c after

-- and no journal does
abbrev pub ReplaysKeepRoom : Type 0
ReplaysKeepRoom =
    (opening end : CoreData) (entries : List Entry) → Replays opening entries end
    → KeepsRoom opening end
