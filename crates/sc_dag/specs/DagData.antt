-- The stages of a job while it runs, as plain data.
use Rattle.std.specs.Prelude.{ℕ, ◌-◌, List, [], Bool, not, false, Option, Some, None, if◌then◌else◌, length, nat_lt, slice_get}
use Rattle.std.specs.Option.{option_map}
use Rattle.sc_base.specs.Lists.{at_or}
use Rattle.sc_ids.specs.Changes.{change_at}
use Rattle.sc_ids.specs.Graphs.{StageData, stage_data}
use Rattle.sc_ids.specs.declared.blocks.Target.TheVariants as targets
use Rattle.sc_ids.specs.declared.limits.Limits.{Limits}
use Rattle.sc_taskset.specs.TaskSetData.{TaskSetData}
use Rattle.sc_tracker.specs.TrackerData.{TrackerData}
use Rattle.sc_dag.specs.declared.attempts.StageAttempt.{StageAttempt}

-- an attempt of a stage with these tasks
abbrev pub stage_attempt : TaskSetData → Bool → StageAttempt
stage_attempt set has_failed = record { set = set; has_failed = has_failed }

-- what becomes of a stage in a job
pub record StageState : Type 0 where
  -- how many attempts it had in the jobs before
  pub before : ℕ
  -- its attempts in this job, the oldest first
  pub attempts : List StageAttempt
  -- whether it waits for outputs of its parents
  pub waits : Bool
  -- for each partition whether it has a result; of a map stage the tracker tells
  pub results : List Bool
  -- for each partition whether a grant that is still held has denied an attempt of it
  pub held : List Bool

-- the stages of a job
pub record DagData : Type 0 where
  -- what never changes of each stage, by its number; a number that isn't of this job has a stage
  -- without tasks
  pub stages : List StageData
  -- what becomes of them, by the same numbers
  pub states : List StageState
  -- where the outputs of map stages lie
  pub tracker : TrackerData
  -- the limits of the run
  pub limits : Limits

abbrev pub dag_data : List StageData → List StageState → TrackerData → Limits → DagData
dag_data stages states tracker limits =
    record { stages = stages; states = states; tracker = tracker; limits = limits }

-- a stage that isn't of the job
abbrev pub no_stage : StageData
no_stage = stage_data 0 (targets.Result 0) 0 []

-- the stage of a number
abbrev pub stage_at : DagData → ℕ → StageData
stage_at d s = at_or d.stages s no_stage

-- the states with the one of a number changed
abbrev pub with_state : DagData → ℕ → (StageState → StageState) → DagData
with_state d s change = dag_data d.stages (change_at d.states s change) d.tracker d.limits

abbrev pub with_states : DagData → List StageState → DagData
with_states d states = dag_data d.stages states d.tracker d.limits

abbrev pub with_tracker : DagData → TrackerData → DagData
with_tracker d tracker = dag_data d.stages d.states tracker d.limits

-- ---- attempts of a stage

-- the place of the attempt of a number, past the end where it isn't of this job
abbrev pub place_of_attempt : StageState → ℕ → ℕ
place_of_attempt state number =
    if nat_lt number state.before then length state.attempts else number - state.before

-- the attempt of a number
abbrev pub attempt_in : StageState → ℕ → Option StageAttempt
attempt_in state number = slice_get state.attempts (place_of_attempt state number)

-- the newest attempt
abbrev pub newest_attempt : StageState → Option StageAttempt
newest_attempt state = slice_get state.attempts (length state.attempts - 1)

abbrev pub set_in : Option StageAttempt → Option TaskSetData
set_in attempt = option_map (λ a. a.set) attempt

-- the newest task set
abbrev pub newest_set : StageState → Option TaskSetData
newest_set state = set_in (newest_attempt state)

-- the newest task set of the stage of a number
abbrev pub newest_at : DagData → ℕ → Option TaskSetData
newest_at d s = newest_in (slice_get d.states s)
  where
    newest_in : Option StageState → Option TaskSetData
    newest_in None = None
    newest_in (Some state) = newest_set state

-- an attempt with another task set
abbrev pub with_set : (TaskSetData → TaskSetData) → StageAttempt → StageAttempt
with_set change a = stage_attempt (change a.set) a.has_failed

abbrev pub with_attempts : StageState → List StageAttempt → StageState
with_attempts state attempts = record state { attempts = attempts }

-- the task set of the attempt of a number changed
abbrev pub changed_set : ℕ → (TaskSetData → TaskSetData) → StageState → StageState
changed_set number change state =
    with_attempts state
    (change_at state.attempts (place_of_attempt state number) (with_set change))

-- the newest task set changed
abbrev pub changed_newest : (TaskSetData → TaskSetData) → StageState → StageState
changed_newest change state =
    with_attempts state
    (change_at state.attempts (length state.attempts - 1) (with_set change))

-- a task set that hands out tasks
abbrev pub is_live_set : Option TaskSetData → Bool
is_live_set None = false
is_live_set (Some set) = not set.is_zombie

-- a stage whose newest task set hands out tasks
abbrev pub is_live : StageState → Bool
is_live state = is_live_set (newest_set state)
