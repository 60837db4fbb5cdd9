-- The core of a job that begins.
use Rattle.std.proofs.Common.{◌≡◌, inl, Bool, List, Option, Some, IfSome, refl}
use Rattle.sc_dag.specs.DagData.{DagData}
use Rattle.sc_dag.specs.Openings.{FitsJob, IsJob, Opens}
use Rattle.sc_dag.specs.Submission.{IsSubmitted, this_stage}
use Rattle.sc_ids.specs.Graphs.{StageData}
use Rattle.sc_ids.specs.declared.limits.Limits.{Limits}
use Rattle.sc_plan.specs.declared.lines.PlanLine.{PlanLine}
use Rattle.sc_tracker.specs.TrackerData.{TrackerData}
use Rattle.sc_tracker.specs.Tracking.{unregistered}
use Rattle.sc_core.specs.CoreData.{CoreData, result_stage}
use Rattle.sc_core.specs.Openings.{BeginsWith, IsOpening, tracker_behind, unregistered_core}
use Rattle.sc_core.specs.Sound.{HasLive, IsSoundCore}
use Rattle.sc_core.proofs.LawLemmas.{openings_are_sound}
use Rattle.sc_core.proofs.LeavingLemmas.{last_leaves_well, sound_cores_leave_well, unregistered_leave_well}

-- the stages are opened, and the result stage is submitted
pub begins_with : (graph : List StageData) (limits : Limits) (last before : Option DagData)
    (t : TrackerData) (dag mid after : DagData) → before ≡ last → Opens graph before t dag
    → dag.limits ≡ limits → mid ≡ dag
    → IsSubmitted mid (this_stage (result_stage mid)) after → BeginsWith graph limits last t after
begins_with graph limits last before t dag mid after is opens limited same submits =
    record {
      dag = dag;
      opens = rw (← is) opens;
      limits_are = limited;
      submits = rw same at submits;
    }

-- ---- with the tracker that is carried on

-- it is sound
pub opening_sound : (graph : List StageData) (limits : Limits) (saved : Bool)
    (plan : List PlanLine) (last before : Option CoreData) (c : CoreData) → before ≡ last
    → IsJob graph → FitsJob (tracker_behind last limits) graph → IfSome last IsSoundCore
    → HasLive (tracker_behind last limits) → IsOpening graph limits saved plan before c
    → IsSoundCore c
opening_sound graph limits saved plan last before c is job fits sound live opening =
    openings_are_sound graph limits saved plan last c job fits (last_leaves_well last sound) live
    (rw (← is) opening)

-- ---- with nothing registered

-- such a tracker has room for no shuffle, so it fits each job
pub unregistered_fits : (t u : TrackerData) (graph : List StageData) → u ≡ unregistered t
    → FitsJob u graph
unregistered_fits t u graph is = rw is (λ i stage l shuffle target. inl refl)

pub again_sound : (graph : List StageData) (limits : Limits) (saved : Bool) (plan : List PlanLine)
    (last c : CoreData) → IsJob graph → IsSoundCore last → HasLive last.dag.tracker
    → IsOpening graph limits saved plan (Some (unregistered_core last)) c → IsSoundCore c
again_sound graph limits saved plan last c job sound live opening =
    openings_are_sound graph limits saved plan (Some (unregistered_core last)) c job
    (unregistered_fits last.dag.tracker (unregistered last.dag.tracker) graph refl)
    ((unregistered_leave_well last).0 (sound_cores_leave_well last sound))
    ((unregistered_leave_well last).1 live) opening
