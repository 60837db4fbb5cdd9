-- What the stages make of what their tasks report.
use Rattle.std.specs.Prelude.{ℕ, ◌≡◌, ◌==◌, ◌&&◌, not, Bool, true, false, Option, Some, None, if◌then◌else◌, count_by, map, nat_le, slice_get}
use Rattle.sc_ids.specs.Changes.{change_at}
use Rattle.sc_ids.specs.declared.attempts.AttemptId.{AttemptId}
use Rattle.sc_ids.specs.declared.blocks.BlockId.{BlockId}
use Rattle.sc_ids.specs.declared.blocks.Loc.{Loc}
use Rattle.sc_ids.specs.declared.blocks.Target.{Target}
use Rattle.sc_ids.specs.declared.blocks.Target.TheVariants as targets
use Rattle.sc_ids.specs.declared.failures.FailureCause.{FailureCause}
use Rattle.sc_taskset.specs.Lookups.{are_finished, has_task_and, is_finished}
use Rattle.sc_taskset.specs.Reports.{after_end, after_failure, after_held, after_success, as_zombie, reaches_limit}
use Rattle.sc_taskset.specs.TaskSetData.{TaskSetData}
use Rattle.sc_tracker.specs.TrackerData.{TrackerData}
use Rattle.sc_tracker.specs.Tracking.{is_bogus, registered}
use Rattle.sc_dag.specs.DagData.{DagData, StageState, attempt_in, changed_newest, changed_set, newest_at, place_of_attempt, set_in, stage_at, stage_attempt, with_attempts, with_state, with_tracker}
use Rattle.sc_dag.specs.Offers.{newest_number}
use Rattle.sc_dag.specs.Outputs.{block_of, is_complete}
use Rattle.sc_dag.specs.Submission.{IsSubmitted, is_idle_in, this_stage, waiting_stages}
use Rattle.sc_dag.specs.declared.attempts.StageAttempt.{StageAttempt}
use Rattle.sc_dag.specs.declared.reports.Success.{Success}
use Rattle.sc_dag.specs.declared.reports.Success.TheVariants as says
use Rattle.sc_taskset.specs.declared.tasks.Verdict.{Verdict}
use Rattle.sc_taskset.specs.declared.tasks.Verdict.TheVariants.{Again, Limit}

-- a task set still wants a partition: it has a task for it, which isn't finished
abbrev pub wants_in : Option TaskSetData → ℕ → Bool
wants_in None partition = false
wants_in (Some set) partition = has_task_and (λ t. not (is_finished t)) set partition

-- a success of an attempt would be a repeated one: the newest set of its stage doesn't want it
abbrev pub is_repeat : DagData → AttemptId → Bool
is_repeat d a = not (wants_in (newest_at d a.stage) a.partition)

-- an attempt is of the newest attempt of its stage
abbrev pub is_of_newest : DagData → AttemptId → Bool
is_of_newest d a = a.stage_attempt == newest_number d a.stage

-- the attempt's own task set changed
abbrev pub in_own_set : DagData → AttemptId → (TaskSetData → TaskSetData) → DagData
in_own_set d a change = with_state d a.stage (changed_set a.stage_attempt change)

-- a success told to its own set
abbrev pub succeeded_in_own : DagData → AttemptId → ℕ → DagData
succeeded_in_own d a now = in_own_set d a (λ set. after_success set a.partition (Some a.nth) now)

-- a success told to its own set, and to the newest set of the stage where that is another one
abbrev pub succeeded_in_both : DagData → AttemptId → ℕ → DagData
succeeded_in_both d a now =
    if is_of_newest d a then succeeded_in_own d a now
    else with_state (succeeded_in_own d a now) a.stage
    (changed_newest (λ set. after_success set a.partition None now))

abbrev pub ended_in_own : DagData → AttemptId → DagData
ended_in_own d a = in_own_set d a (λ set. after_end set a.partition a.nth)

-- the block that a map attempt leaves, where its stage is one of map tasks
abbrev pub block_by : Target → ℕ → Option BlockId
block_by (targets.Map shuffle) partition = Some (block_of shuffle partition)
block_by (targets.Result node) partition = None

abbrev pub registered_by : TrackerData → Option BlockId → Loc → TrackerData
registered_by t None loc = t
registered_by t (Some block) loc = registered t block loc

-- the output of a map attempt registered
abbrev pub with_output : DagData → AttemptId → Loc → DagData
with_output d a loc =
    with_tracker d
    (registered_by d.tracker (block_by (stage_at d a.stage).target a.partition) loc)

-- How a map success is taken, by an attempt that was handed out at this epoch: repeated, or bogus
-- where the output may be lost already, or registered.
abbrev pub map_success_of : DagData → AttemptId → Loc → ℕ → Success
map_success_of d a loc epoch =
    if is_repeat d a then says.Repeated
    else if is_bogus d.tracker loc epoch then says.Bogus else says.Registered

-- What it leaves. A repeated one only ends the attempt. A bogus one finishes the partition in the
-- attempt's own set alone.
abbrev pub after_map_success : DagData → AttemptId → Loc → ℕ → ℕ → DagData
after_map_success d a loc epoch now =
    if is_repeat d a then ended_in_own d a
    else if is_bogus d.tracker loc epoch then succeeded_in_own d a now
    else succeeded_in_both (with_output d a loc) a now

-- a partition with a result
abbrev pub with_result : ℕ → StageState → StageState
with_result partition state =
    record state { results = change_at state.results partition (λ _. true) }

-- how the success of a result task is taken
abbrev pub result_success_of : DagData → AttemptId → Success
result_success_of d a = if is_repeat d a then says.Repeated else says.Finished

-- an attempt of a stage whose failure is forgotten, as the stage is complete
abbrev pub forgiven : StageAttempt → StageAttempt
forgiven a = stage_attempt a.set false

-- a stage that is complete: it waits for nothing, and its failed attempts don't count any more
abbrev pub completed : StageState → StageState
completed state = record state { waits = false; attempts = map forgiven state.attempts }

-- a stage is completed where all its partitions are done
abbrev pub completed_if : DagData → ℕ → DagData
completed_if d s = if is_complete d s then with_state d s completed else d

-- what it leaves; with the last result the stage is complete
abbrev pub after_result_success : DagData → AttemptId → ℕ → DagData
after_result_success d a now =
    if is_repeat d a then ended_in_own d a
    else completed_if
    (with_state (succeeded_in_both d a now) a.stage (with_result a.partition)) a.stage

abbrev pub set_of : DagData → AttemptId → Option TaskSetData
set_of d a = set_among (slice_get d.states a.stage) a.stage_attempt
  where
    set_among : Option StageState → ℕ → Option TaskSetData
    set_among None number = None
    set_among (Some state) number = set_in (attempt_in state number)

-- a failure brings its partition to the limit in the attempt's own set
abbrev pub reaches_limit_in : Option TaskSetData → AttemptId → FailureCause → Bool
reaches_limit_in None a cause = false
reaches_limit_in (Some set) a cause = reaches_limit set a.partition a.nth cause

abbrev pub after_failed : DagData → AttemptId → FailureCause → DagData
after_failed d a cause = in_own_set d a (λ set. after_failure set a.partition a.nth cause)

-- a stage attempt that failed: its set starts nothing more
abbrev pub failed_attempt : StageAttempt → StageAttempt
failed_attempt a = stage_attempt (as_zombie a.set) true

-- a stage one of whose attempts failed
abbrev pub with_failed : ℕ → StageState → StageState
with_failed number state =
    with_attempts state
    (change_at state.attempts (place_of_attempt state number) failed_attempt)

abbrev pub failed_count : Option StageState → ℕ
failed_count None = 0
failed_count (Some state) = count_by (λ a. a.has_failed) state.attempts

-- so many attempts of a stage failed that the job is aborted
abbrev pub has_failed_often : DagData → ℕ → Bool
has_failed_often d s = nat_le d.limits.stage_attempts (failed_count (slice_get d.states s))

-- What the failure of a stage attempt leaves: at the limit that alone, and else the stage is
-- submitted again.
abbrev pub FailsStage : DagData → ℕ → ℕ → Verdict → DagData → Type 0
FailsStage d s number Limit after =
    (has_failed_often (with_state d s (with_failed number)) s ≡ true)
    × (after ≡ with_state d s (with_failed number))
FailsStage d s number Again after =
    (has_failed_often (with_state d s (with_failed number)) s ≡ false)
    × IsSubmitted (with_state d s (with_failed number)) (this_stage s) after

-- what a complete map stage leaves: all stages that wait are looked at again
abbrev pub CompletesMap : DagData → ℕ → DagData → Type 0
CompletesMap d s after =
    IsSubmitted (with_state d s completed) (waiting_stages (with_state d s completed)) after

-- a newest set whose tasks are all finished while outputs are missing: its stage is idle
abbrev pub is_finished_short : DagData → ℕ → Bool
is_finished_short d s =
    not (is_complete d s) && (is_idle_in (slice_get d.states s) && all_finished (newest_at d s))
  where
    all_finished : Option TaskSetData → Bool
    all_finished None = false
    all_finished (Some set) = are_finished set.tasks

-- A stage told whether a held grant has denied an attempt of a partition. It tells its newest
-- attempt, and keeps it for those to come.
abbrev pub told_held : ℕ → Bool → StageState → StageState
told_held partition denied state =
    record (changed_newest (λ set. after_held set partition denied) state) {
      held = change_at state.held partition (λ _. denied);
    }

abbrev pub after_hold : DagData → ℕ → ℕ → Bool → DagData
after_hold d s partition denied = with_state d s (told_held partition denied)
