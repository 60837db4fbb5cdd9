-- Laws of the stages of a job.
use Rattle.std.specs.Prelude.{ℕ, ◌≡◌, ◌<◌, ◌⊎◌, Bool, true, false, List, Option, IfSome, Some, slice_get}
use Rattle.sc_ids.specs.Graphs.{StageData}
use Rattle.sc_ids.specs.declared.attempts.AttemptId.{AttemptId}
use Rattle.sc_ids.specs.declared.blocks.Loc.{Loc}
use Rattle.sc_ids.specs.declared.failures.FailureCause.{FailureCause}
use Rattle.sc_taskset.specs.Lookups.{is_finished, is_idle, task_at}
use Rattle.sc_taskset.specs.TaskSetData.{TaskSetData, TaskData}
use Rattle.sc_taskset.specs.declared.tasks.Verdict.{Verdict}
use Rattle.sc_taskset.specs.declared.tasks.Verdict.TheVariants.{Again}
use Rattle.sc_tracker.specs.TrackerData.{TrackerData}
use Rattle.sc_tracker.specs.TrackerFacts.{IsSoundTracker}
use Rattle.sc_tracker.specs.Trust.{is_live as is_live_executor}
use Rattle.sc_dag.specs.DagData.{DagData, is_live_set, newest_at, stage_at}
use Rattle.sc_dag.specs.Losses.{after_lost, after_seen}
use Rattle.sc_dag.specs.Offers.{HasNone, handed_out, may_be_given_in, newest_number}
use Rattle.sc_dag.specs.Openings.{FitsJob, IsJob, Opens}
use Rattle.sc_dag.specs.Outputs.{is_complete}
use Rattle.sc_dag.specs.Reports.{CompletesMap, FailsStage, after_failed, after_hold, after_map_success, after_result_success, is_finished_short}
use Rattle.sc_dag.specs.Settled.{IsSettled, IsSettledBy, IsUnderWay, goes_on}
use Rattle.sc_dag.specs.Sound.{IsSoundDag, runner_of, AreSoundStages}
use Rattle.sc_dag.specs.Submission.{IsSubmitted, is_map, this_stage}

-- two submissions of the same stages leave the same
abbrev pub SubmissionsAgree : Type 0
SubmissionsAgree =
    (d a b : DagData) (submitted : ℕ → Bool) → AreSoundStages d.stages d.tracker
    → IsSubmitted d submitted a → IsSubmitted d submitted b → a ≡ b

-- a stage that is submitted once more stays as it is
abbrev pub SubmissionsRepeat : Type 0
SubmissionsRepeat =
    (d after again : DagData) (s : ℕ) → IsSoundDag d → IsSubmitted d (this_stage s) after
    → is_live_set (newest_at after s) ≡ false
    → IsSubmitted after (this_stage s) again → again ≡ after

-- A job begins sound and settled. Its result stage isn't complete, so once that is submitted it is
-- under way.
abbrev pub OpeningsAreSound : Type 0
OpeningsAreSound =
    (graph : List StageData) (last : Option DagData) (t : TrackerData) (d : DagData)
    (job : IsJob graph) → FitsJob t graph → IsSoundTracker t → Opens graph last t d
    → IsSoundDag d × IsSettled d × (is_complete d job.result.id ≡ false)

-- the newest attempt of a stage may fail: an event came after it began
pub record IsChargeable (d : DagData) (s number : ℕ) : Type 0 where
  pub newest : number ≡ newest_number d s
  pub begun : IfSome (newest_at d s) (λ set. set.born < d.tracker.epoch)

-- what every call keeps
abbrev pub CallsKeepSound : Type 0
CallsKeepSound =
    (d : DagData) → IsSoundDag d
    → ((submitted : ℕ → Bool) (after : DagData) → IsSubmitted d submitted after
    → IsSoundDag after)
    × ((a : AttemptId) (exec now : ℕ)
    → may_be_given_in (newest_at d a.stage) exec now a.partition ≡ true
    → IsSoundDag (handed_out d a exec now))
    × ((a : AttemptId) (loc : Loc) (epoch now : ℕ) → is_map (stage_at d a.stage).target ≡ true
    → runner_of d a ≡ Some loc.exec → IsSoundDag (after_map_success d a loc epoch now))
    × ((a : AttemptId) (exec now : ℕ) → is_map (stage_at d a.stage).target ≡ false
    → runner_of d a ≡ Some exec → IsSoundDag (after_result_success d a now))
    × ((a : AttemptId) (cause : FailureCause) → IsSoundDag (after_failed d a cause))
    × ((s number : ℕ) (verdict : Verdict) (after : DagData) → IsChargeable d s number
    → FailsStage d s number verdict after → IsSoundDag after)
    × ((s : ℕ) (after : DagData) → CompletesMap d s after → IsSoundDag after)
    × ((s p : ℕ) (denied : Bool) → IsSoundDag (after_hold d s p denied))
    × ((exec found : ℕ) → IsSoundDag (after_seen d exec found))
    × ((exec : ℕ) → is_live_executor (slice_get d.tracker.trust exec) ≡ true
    → IsSoundDag (after_lost d exec))

-- a stage that was under way is still, unless it is complete
abbrev pub KeepsUnderWay : DagData → DagData → Type 0
KeepsUnderWay d after =
    (s : ℕ) → IsUnderWay d s → is_complete after s ≡ false → goes_on after s ≡ true

-- no stage is forgotten, and none that was under way has stopped
abbrev pub GoesOn : DagData → DagData → Type 0
GoesOn d after = IsSettled after × KeepsUnderWay d after

-- A submission settles what was to be submitted.
abbrev pub SubmissionsSettle : Type 0
SubmissionsSettle =
    (d : DagData) (submitted : ℕ → Bool) (after : DagData) → IsSoundDag d
    → IsSettledBy d submitted
    → ((s : ℕ) → submitted s ≡ true → is_live_set (newest_at d s) ≡ false)
    → IsSubmitted d submitted after
    → GoesOn d after
    × ((s : ℕ) → submitted s ≡ true → is_complete d s ≡ false → IsUnderWay after s)

-- No stage is forgotten over a map success, where a stage that is complete then is told so, and one
-- that is finished short of outputs is submitted again.
abbrev pub MapSuccessesGoOn : Type 0
MapSuccessesGoOn =
    (d : DagData) (a : AttemptId) (loc : Loc) (epoch now : ℕ) (after : DagData)
    → IsSoundDag d → IsSettled d → is_map (stage_at d a.stage).target ≡ true
    → runner_of d a ≡ Some loc.exec → let mid = after_map_success d a loc epoch now in
    ((is_complete mid a.stage ≡ true → CompletesMap mid a.stage after → GoesOn d after)
    × (is_finished_short mid a.stage ≡ true → IsSubmitted mid (this_stage a.stage) after
    → GoesOn d after)
    × (is_complete mid a.stage ≡ false → is_finished_short mid a.stage ≡ false → GoesOn d mid))

-- nor over the success of a result task
abbrev pub ResultSuccessesGoOn : Type 0
ResultSuccessesGoOn =
    (d : DagData) (a : AttemptId) (exec now : ℕ) → IsSoundDag d → IsSettled d
    → is_map (stage_at d a.stage).target ≡ false → runner_of d a ≡ Some exec
    → GoesOn d (after_result_success d a now)

-- nor where a stage attempt failed and another may follow
abbrev pub FailuresGoOn : Type 0
FailuresGoOn =
    (d : DagData) (s : ℕ) (after : DagData) → IsSoundDag d → IsSettled d
    → is_complete d s ≡ false → FailsStage d s (newest_number d s) Again after → GoesOn d after

-- nor over what is handed out, what fails without failing its stage, and what is lost
abbrev pub OthersGoOn : Type 0
OthersGoOn =
    (d : DagData) → IsSoundDag d → IsSettled d
    → ((a : AttemptId) (exec now : ℕ) → GoesOn d (handed_out d a exec now))
    × ((a : AttemptId) (cause : FailureCause) → GoesOn d (after_failed d a cause))
    × ((s p : ℕ) (denied : Bool) → GoesOn d (after_hold d s p denied))
    × ((exec found : ℕ) → GoesOn d (after_seen d exec found))
    × ((exec : ℕ) → GoesOn d (after_lost d exec))

-- a task of a stage's newest attempt is why nothing more is handed out: it isn't finished, and an
-- attempt of it runs, or a grant that is held has denied one
pub record HoldsBack (d : DagData) (s p : ℕ) : Type 0 where
  pub set : TaskSetData
  pub task : TaskData
  pub newest : newest_at d s ≡ Some set
  pub live : set.is_zombie ≡ false
  pub is_task : task_at p set.tasks ≡ Some task
  pub unfinished : is_finished task ≡ false
  pub held : (is_idle task.copies ≡ false) ⊎ (task.denied ≡ true)

-- Where a stage is under way and no stage has a task for an executor, some task is held back.
abbrev pub NothingIsStuck : Type 0
NothingIsStuck =
    (d : DagData) (r exec now : ℕ) → IsSoundDag d → IsSettled d → IsUnderWay d r
    → HasNone d exec now
    → (s : ℕ) × (p : ℕ) × HoldsBack d s p
