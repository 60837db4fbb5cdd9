-- What holds of every tracker.
use Rattle.std.specs.Prelude.{ℕ, List, Some, IfSome, ◌≡◌, ◌≢◌, ◌≤◌, ◌<◌, ◌+◌, ◌^◌, if◌then◌else◌, map}
use Rattle.std.specs.List.{All, AllPairs, sum_by}
use Rattle.sc_tracker.specs.declared.outputs.Output.{Output}
use Rattle.sc_tracker.specs.declared.trust.Trust.{Trust}
use Rattle.sc_tracker.specs.TrackerData.{ShuffleData, TrackerData}
use Rattle.sc_tracker.specs.Trust.{trust_at}

-- what holds of each output
pub record IsSoundOutput (trust : List Trust) (epoch : ℕ) (output : Output) : Type 0 where
  -- a registered output is of no generation below the one that was seen there
  pub fresh : IfSome output.here (λ loc. (trust_at trust loc.exec).seen ≤ loc.generation)
  -- it is where it was registered last
  pub is_last : IfSome output.here (λ loc. output.last ≡ Some loc)
  -- it was registered no later than now
  pub before : output.since ≤ epoch

-- an executor's mark is below the epoch
abbrev pub HasMarkBelow : ℕ → Trust → Type 0
HasMarkBelow epoch trust = IfSome trust.mark (λ mark. mark < epoch)

-- how often outputs of an executor can have been forgotten: each time its seen generation rises
-- by one or more, and once when it is told lost
abbrev pub events_of : Trust → ℕ
events_of trust = trust.seen + (if trust.lost then 1 else 0)

-- every tracker
pub record IsSoundTracker (t : TrackerData) : Type 0 where
  pub outputs : All (λ s. All (IsSoundOutput t.trust t.epoch) s.outputs) t.shuffles
  -- else a task that is handed out now would be ruled out by a mark already
  pub marks : All (HasMarkBelow t.epoch) t.trust
  -- so the epoch never comes to the end of its type
  pub events : t.epoch ≤ sum_by events_of t.trust

-- the seen generations are within their type
abbrev pub SeenFits : List Trust → Type 0
SeenFits trust = All (λ heard. heard.seen < 2 ^ 32) trust

-- no two places are of one shuffle
abbrev pub AreApart : List ShuffleData → Type 0
AreApart shuffles = AllPairs (λ a b. a ≢ b) (map (λ s. s.shuffle) shuffles)
