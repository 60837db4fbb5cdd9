-- What events do to what is known of where map outputs lie.
use Rattle.std.specs.Prelude.{ℕ, ◌+◌, ◌≡◌, ◌&&◌, ◌⊎◌, Bool, true, false, List, [], ◌∷◌, Some, if◌then◌else◌, slice_get}
use Rattle.std.specs.List.{list_any}
use Rattle.sc_ids.specs.declared.blocks.BlockId.{BlockId}
use Rattle.sc_ids.specs.declared.blocks.Loc.{Loc}
use Rattle.sc_ids.specs.declared.failures.FailureCause.{FailureCause}
use Rattle.sc_ids.specs.declared.failures.FailureCause.TheVariants as causes
use Rattle.sc_tracker.specs.TrackerData.{TrackerData}
use Rattle.sc_tracker.specs.Tracking.{after_executor_lost, after_gone, is_bogus, registered}
use Rattle.sc_tracker.specs.Trust.{is_live, is_newer}
use Rattle.sc_dag.specs.DagData.{stage_at}
use Rattle.sc_dag.specs.Reports.{block_by}
use Rattle.sc_core.specs.CoreData.{CoreData, running_of}
use Rattle.sc_core.specs.Journals.{Replays}
use Rattle.sc_core.specs.Sound.{IsSoundCore}
use Rattle.sc_core.specs.Steps.{Steps}
use Rattle.sc_core.specs.declared.answers.Answer.{Answer}
use Rattle.sc_core.specs.declared.entries.Entry.{Entry}
use Rattle.sc_core.specs.declared.events.Event.{Event}
use Rattle.sc_core.specs.declared.events.Event.TheVariants.{TellLost}
use Rattle.sc_core.specs.declared.events.Outcome.{Outcome}
use Rattle.sc_core.specs.declared.events.Outcome.TheVariants as outcomes
use Rattle.sc_core.specs.declared.running.Running.{Running}
use Rattle.sc_history.specs.Tellings.{Telling, is_heard, tellings_in}

-- ---- one event

-- the block of an attempt that ran is registered on its executor, where nothing rules it out
pub record RegistersOwn (c : CoreData) (after : TrackerData) : Type 0 where
  pub one : Running
  pub ran : running_of c one.hand_out.attempt ≡ Some one
  pub block : BlockId
  pub own : block_by (stage_at c.dag one.hand_out.attempt.stage).target
      one.hand_out.attempt.partition ≡ Some block
  pub loc : Loc
  pub there : loc.exec ≡ one.exec
  pub trusted : is_bogus c.dag.tracker loc one.hand_out.epoch ≡ false
  pub is : after ≡ registered c.dag.tracker block loc

-- a generation of an executor's store is seen that is above the one seen before
pub record SeesNewer (t after : TrackerData) : Type 0 where
  pub exec : ℕ
  pub found : ℕ
  pub newer : is_newer (slice_get t.trust exec) found ≡ true
  pub is : after ≡ after_gone t exec found

-- an executor that was live is told lost
pub record LosesOne (t after : TrackerData) : Type 0 where
  pub exec : ℕ
  pub live : is_live (slice_get t.trust exec) ≡ true
  pub is : after ≡ after_executor_lost t exec

-- the tracker stays, or learns of one block, or outputs of one executor are forgotten
abbrev pub Tracks : CoreData → TrackerData → Type 0
Tracks c after =
    (after ≡ c.dag.tracker)
    ⊎ (RegistersOwn c after ⊎ (SeesNewer c.dag.tracker after ⊎ LosesOne c.dag.tracker after))

-- every event changes the tracker in one of these ways alone
abbrev pub StepsTrack : Type 0
StepsTrack =
    (c after : CoreData) (event : Event) (answer : Answer) → IsSoundCore c
    → Steps c event answer after → Tracks c after.dag.tracker

-- ---- how many there are

-- a cause shows a generation above the one that was seen
abbrev pub finds_newer : TrackerData → FailureCause → Bool
finds_newer t (causes.Gone exec wanted found) = is_newer (slice_get t.trust exec) found
finds_newer t cause = false

abbrev pub shows_newer : TrackerData → Outcome → Bool
shows_newer t (outcomes.Failed cause) = finds_newer t cause
shows_newer t outcome = false

-- a report that is heard does
abbrev pub tells_newer : TrackerData → Telling → Bool
tells_newer t told = is_heard told.answer && shows_newer t told.outcome

-- outputs of an executor are forgotten: it is told lost, or a newer generation of its store is seen
abbrev pub forgets : CoreData → Event → Answer → Bool
forgets c (TellLost exec) answer = true
forgets c event answer = list_any (tells_newer c.dag.tracker) (tellings_in c event answer)

-- how often that happens in a journal
abbrev pub times_forgotten : (opening : CoreData) (entries : List Entry) (end : CoreData)
    → Replays opening entries end → ℕ
times_forgotten opening [] end is = 0
times_forgotten opening (entry ∷ entries) end (mid, step, rest) =
    (if forgets opening entry.event entry.answer then 1 else 0)
    + times_forgotten mid entries end rest

-- the epoch rises by one exactly where outputs are forgotten
abbrev pub StepsCountEpochs : Type 0
StepsCountEpochs =
    (c after : CoreData) (event : Event) (answer : Answer) → IsSoundCore c
    → Steps c event answer after
    → after.dag.tracker.epoch ≡ c.dag.tracker.epoch + (if forgets c event answer then 1 else 0)

-- so it counts how often that happened
abbrev pub EpochsCount : Type 0
EpochsCount =
    (opening end : CoreData) (entries : List Entry) → IsSoundCore opening
    → (replays : Replays opening entries end)
    → end.dag.tracker.epoch
    ≡ opening.dag.tracker.epoch + times_forgotten opening entries end replays
