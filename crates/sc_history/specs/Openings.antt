-- How a job begins.
use Rattle.std.specs.Prelude.{◌≡◌, ◌≢◌, Bool, List, All, Option, IfSome, length, true}
use Rattle.sc_ids.specs.Graphs.{StageData}
use Rattle.sc_ids.specs.declared.blocks.ShuffleId.{ShuffleId}
use Rattle.sc_ids.specs.declared.blocks.Target.TheVariants as targets
use Rattle.sc_ids.specs.declared.limits.Limits.{Limits}
use Rattle.sc_plan.specs.declared.lines.PlanLine.{PlanLine}
use Rattle.sc_tracker.specs.TrackerData.{TrackerData, outputs_of}
use Rattle.sc_tracker.specs.Tracking.{has_room}
use Rattle.sc_dag.specs.Openings.{FitsJob, IsJob}
use Rattle.sc_core.specs.CoreData.{CoreData}
use Rattle.sc_core.specs.Openings.{IsOpening, tracker_behind}
use Rattle.sc_core.specs.Sound.{LeavesWell}
use Rattle.sc_history.specs.Rooms.{IsSameRoom}

-- two cores of one opening are the same
abbrev pub OpeningsAgree : Type 0
OpeningsAgree =
    (graph : List StageData) (limits : Limits) (saves : Bool) (plan : List PlanLine)
    (last : Option CoreData) (x y : CoreData) → IsJob graph
    → FitsJob (tracker_behind last limits) graph
    → IfSome last LeavesWell → IsOpening graph limits saves plan last x
    → IsOpening graph limits saves plan last y → x ≡ y

-- there is room for the outputs of a stage, and for no more of its shuffle
pub record HasItsRoom (u : TrackerData) (stage : StageData) (shuffle : ShuffleId) : Type 0 where
  pub has : has_room u shuffle ≡ true
  pub outputs : length (outputs_of u shuffle) ≡ stage.tasks

-- the same, where it is a map stage
abbrev pub HasRoomFor : TrackerData → StageData → Type 0
HasRoomFor u stage =
    (shuffle : ShuffleId) → stage.target ≡ targets.Map shuffle → HasItsRoom u stage shuffle

-- a stage doesn't make a shuffle
abbrev pub MakesOther : ShuffleId → StageData → Type 0
MakesOther shuffle stage = stage.target ≢ targets.Map shuffle

-- Room for the stages of a job, made from what there was.
pub record MakesRoom (graph : List StageData) (t u : TrackerData) : Type 0 where
  -- there is room for the outputs of each map stage
  pub made : All (HasRoomFor u) graph
  -- what there was room for stays so
  pub kept : (shuffle : ShuffleId) → has_room t shuffle ≡ true → IsSameRoom t u shuffle
  -- and so does a shuffle that no stage makes
  pub others : (shuffle : ShuffleId) → All (MakesOther shuffle) graph → IsSameRoom t u shuffle

-- a job that begins has room for its map stages, and keeps the rest
abbrev pub OpeningsMakeRoom : Type 0
OpeningsMakeRoom =
    (graph : List StageData) (limits : Limits) (saves : Bool) (plan : List PlanLine)
    (last : Option CoreData) (c : CoreData) → IsJob graph
    → FitsJob (tracker_behind last limits) graph
    → IsOpening graph limits saves plan last c
    → MakesRoom graph (tracker_behind last limits) c.dag.tracker
