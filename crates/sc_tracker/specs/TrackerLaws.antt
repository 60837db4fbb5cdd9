-- Laws of trackers: what the changes of `Tracking` mean for each block and each executor.
use Rattle.std.specs.Prelude.{ℕ, true, false, IfSome, IsSomeAnd, ◌≡◌, ◌≢◌, ◌≤◌, ◌<◌, length, slice_get}
use Rattle.sc_ids.specs.declared.blocks.BlockId.{BlockId}
use Rattle.sc_ids.specs.declared.blocks.Loc.{Loc}
use Rattle.sc_ids.specs.declared.blocks.ShuffleId.{ShuffleId}
use Rattle.sc_tracker.specs.declared.trust.Trust.{Trust}
use Rattle.sc_tracker.specs.Outputs.{forgotten_on, never, placed}
use Rattle.sc_tracker.specs.TrackerData.{TrackerData, output_of, outputs_of, trust_of}
use Rattle.sc_tracker.specs.TrackerFacts.{HasMarkBelow, IsSoundOutput, IsSoundTracker}
use Rattle.sc_tracker.specs.Tracking.{after_executor_lost, after_gone, has_room, is_bogus, registered, sized, unregistered}
use Rattle.sc_tracker.specs.Trust.{is_live, is_newer}

-- the facts of every tracker hold of what it knows of any block and of any executor
abbrev pub LookupsAreSound : Type 0
LookupsAreSound =
    (t : TrackerData) → IsSoundTracker t
    → ((block : BlockId) → IsSoundOutput t.trust t.epoch (output_of t block))
    × ((exec : ℕ) → HasMarkBelow t.epoch (trust_of t exec))

-- there is room for a block
abbrev pub HasRoomFor : TrackerData → BlockId → Type 0
HasRoomFor t block = block.map < length (outputs_of t block.shuffle)

-- room for a shuffle is room for each of its blocks, and changes what is known of none
abbrev pub SizesForAll : Type 0
SizesForAll =
    (t : TrackerData) (shuffle : ShuffleId) (maps : ℕ)
    → ((map : ℕ) → has_room t shuffle ≡ false → map < maps
    → HasRoomFor (sized t shuffle maps) (record { shuffle = shuffle; map = map }))
    × ((block : BlockId) → output_of (sized t shuffle maps) block ≡ output_of t block)

-- a registration changes what is known of that block, where there is room for it, and of no other
abbrev pub RegistersOne : Type 0
RegistersOne =
    (t : TrackerData) (block : BlockId) (loc : Loc)
    → (HasRoomFor t block
    → output_of (registered t block loc) block ≡ placed loc t.epoch never)
    × ((other : BlockId) → other ≢ block
    → output_of (registered t block loc) other ≡ output_of t other)

-- an event forgets the outputs that are registered on that executor, and no other
abbrev pub ForgetsOnOne : Type 0
ForgetsOnOne =
    (t : TrackerData) (exec : ℕ) (block : BlockId)
    → ((found : ℕ) → is_newer (slice_get t.trust exec) found ≡ true
    → output_of (after_gone t exec found) block
    ≡ forgotten_on exec (output_of t block))
    × (is_live (slice_get t.trust exec) ≡ true
    → output_of (after_executor_lost t exec) block
    ≡ forgotten_on exec (output_of t block))

-- a tracker with nothing registered knows of no block, and has room for none
abbrev pub UnregistersAll : Type 0
UnregistersAll =
    (t : TrackerData)
    → ((block : BlockId) → output_of (unregistered t) block ≡ never)
    × ((shuffle : ShuffleId) → has_room (unregistered t) shuffle ≡ false)

-- what was heard of an executor later on
pub record IsLaterTrust (before after : Trust) : Type 0 where
  pub seen : before.seen ≤ after.seen
  pub mark : IfSome before.mark (λ mark. IsSomeAnd after.mark (λ later. mark ≤ later))
  pub lost : before.lost ≡ true → after.lost ≡ true

-- a tracker later on
pub record IsLaterTracker (before after : TrackerData) : Type 0 where
  pub epoch : before.epoch ≤ after.epoch
  pub trust : (exec : ℕ) → IsLaterTrust (trust_of before exec) (trust_of after exec)

-- no call goes back
abbrev pub CallsGoForward : Type 0
CallsGoForward =
    (t : TrackerData) → IsSoundTracker t
    → ((shuffle : ShuffleId) (maps : ℕ) → IsLaterTracker t (sized t shuffle maps))
    × ((block : BlockId) (loc : Loc) → IsLaterTracker t (registered t block loc))
    × ((exec found : ℕ) → IsLaterTracker t (after_gone t exec found))
    × ((exec : ℕ) → IsLaterTracker t (after_executor_lost t exec))

-- what is bogus is bogus for good
abbrev pub BogusStaysBogus : Type 0
BogusStaysBogus =
    (before after : TrackerData) (loc : Loc) (epoch : ℕ) → IsLaterTracker before after
    → is_bogus before loc epoch ≡ true → is_bogus after loc epoch ≡ true

-- a task that is handed out now isn't ruled out by what is known now
abbrev pub NewTasksAreTrusted : Type 0
NewTasksAreTrusted =
    (t : TrackerData) (loc : Loc) (epoch : ℕ) → IsSoundTracker t
    → t.epoch ≤ epoch → (trust_of t loc.exec).seen ≤ loc.generation
    → is_bogus t loc epoch ≡ false

-- an event rules out every output on its executor of a task that was handed out before it
abbrev pub OlderTasksAreBogus : Type 0
OlderTasksAreBogus =
    (t : TrackerData) (loc : Loc) (epoch : ℕ) → epoch ≤ t.epoch
    → ((found : ℕ) → is_newer (slice_get t.trust loc.exec) found ≡ true
    → is_bogus (after_gone t loc.exec found) loc epoch ≡ true)
    × (is_live (slice_get t.trust loc.exec) ≡ true
    → is_bogus (after_executor_lost t loc.exec) loc epoch ≡ true)
