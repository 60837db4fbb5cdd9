-- When the attempts of stages began, and what was there then.
use Rattle.std.specs.Prelude.{ℕ, ◌≡◌, ◌-◌, ◌<◌, ◌≤◌, ◌==◌, ◌&&◌, ◌⊎◌, not, List, All, Bool, IfSome, Some, true, length, map, slice_get}
use Rattle.std.specs.List.{AllPairs, list_any}
use Rattle.sc_base.specs.Lists.{at_or}
use Rattle.sc_ids.specs.Graphs.{StageData}
use Rattle.sc_ids.specs.declared.blocks.BlockId.{BlockId}
use Rattle.sc_ids.specs.declared.blocks.Loc.{Loc}
use Rattle.sc_ids.specs.declared.blocks.ShuffleId.{ShuffleId}
use Rattle.sc_ids.specs.declared.blocks.Target.TheVariants as targets
use Rattle.sc_taskset.specs.Lookups.{are_finished}
use Rattle.sc_taskset.specs.TaskSetData.{TaskSetData}
use Rattle.sc_tracker.specs.TrackerData.{TrackerData, output_of, trust_of}
use Rattle.sc_tracker.specs.declared.outputs.Output.{Output}
use Rattle.sc_dag.specs.DagData.{no_stage}
use Rattle.sc_dag.specs.Outputs.{is_registered}
use Rattle.sc_dag.specs.declared.attempts.StageAttempt.{StageAttempt}

-- the epochs in which attempts began
abbrev pub births_of : List StageAttempt → List ℕ
births_of attempts = map (λ a. a.set.born) attempts

-- attempts began one after another, and none after an epoch
pub record AreBornInTurn (epoch : ℕ) (births : List ℕ) : Type 0 where
  pub rising : AllPairs (λ a b. a ≤ b) births
  pub past : All (λ b. b ≤ epoch) births

-- a task set hands out nothing more, though tasks of it aren't finished
abbrev pub is_given_up : TaskSetData → Bool
is_given_up set = set.is_zombie && not (are_finished set.tasks)

-- An attempt of a stage fails, or is given up, only for an event that came after it began.
pub record AreCharged (epoch : ℕ) (attempts : List StageAttempt) : Type 0 where
  -- one that failed began before now, and before all that followed it
  pub past : All (λ a. a.has_failed ≡ true → a.set.born < epoch) attempts
  pub rising : AllPairs (λ a b. a.has_failed ≡ true → a.set.born < b.set.born) attempts
  -- so did the newest one, where it is given up
  pub given_up : IfSome (slice_get attempts (length attempts - 1))
      (λ a. is_given_up a.set ≡ true → a.set.born < epoch)

-- an output was lost, in an event that came neither before it was registered last nor before this
-- epoch
pub record WasLost (t : TrackerData) (output : Output) (born : ℕ) : Type 0 where
  pub loc : Loc
  pub mark : ℕ
  pub place : output.last ≡ Some loc
  pub marked : (trust_of t loc.exec).mark ≡ Some mark
  pub after_it : output.since ≤ mark
  pub after_birth : born ≤ mark

-- a block was there in an epoch: it is registered, or was lost since
abbrev pub WasThere : TrackerData → BlockId → ℕ → Type 0
WasThere t block born = (is_registered t block ≡ true) ⊎ WasLost t (output_of t block) born

-- a stage reads the output of a map partition: it is one of a parent
pub record ReadsOutput (stages : List StageData) (s : ℕ) (shuffle : ShuffleId) (p : ℕ)
    : Type 0 where
  pub parent : ℕ
  pub is_parent : list_any (λ q. q == parent) (at_or stages s no_stage).parents ≡ true
  pub made : (at_or stages parent no_stage).target ≡ targets.Map shuffle
  pub within : p < (at_or stages parent no_stage).tasks
