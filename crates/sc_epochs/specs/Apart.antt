-- When outputs of a stage are missing, and when it is tried again: others were forgotten before.
use Rattle.std.specs.Prelude.{ℕ, ◌≡◌, ◌<◌, true, false, List, Some, map}
use Rattle.std.specs.List.{AllPairs}
use Rattle.sc_taskset.specs.TaskSetData.{TaskSetData}
use Rattle.sc_dag.specs.Births.{births_of}
use Rattle.sc_dag.specs.DagData.{DagData, newest_at, stage_at}
use Rattle.sc_dag.specs.Outputs.{is_done}
use Rattle.sc_dag.specs.Reports.{wants_in}
use Rattle.sc_dag.specs.Sound.{attempts_of}
use Rattle.sc_dag.specs.Submission.{is_map}

-- An output of a map stage isn't registered, and the newest task set of the stage doesn't want it:
-- it has no task for it, or that is finished. Then outputs were forgotten since the set began.
abbrev pub OwnWereThere : DagData → Type 0
OwnWereThere d =
    (s p : ℕ) (set : TaskSetData) → is_map (stage_at d s).target ≡ true
    → p < (stage_at d s).tasks → newest_at d s ≡ Some set → wants_in (Some set) p ≡ false
    → is_done d s p ≡ false → set.born < d.tracker.epoch

-- The attempts of each stage began one after another, and outputs were forgotten in between.
abbrev pub BornOrder : DagData → Type 0
BornOrder d = (s : ℕ) → AllPairs (λ a b. a < b) (births_of (attempts_of d s))

-- what holds of the stages of a job in a world
pub record AreBornApart (d : DagData) : Type 0 where
  pub own : OwnWereThere d
  pub order : BornOrder d

-- the task sets of the attempts of a stage
abbrev pub sets_of : DagData → ℕ → List TaskSetData
sets_of d s = map (λ a. a.set) (attempts_of d s)
