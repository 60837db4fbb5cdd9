-- How the stages of a job are held: a row for each, with room for its next attempt.
use Rattle.std.specs.Prelude.{ℕ, ◌≡◌, ◌<◌, ◌≤◌, ◌&&◌, ◌||◌, not, Bool, true, false, List, Option, Some, None, All, if◌then◌else◌, map, slice_get}
use Rattle.std.specs.List.{list_all}
use Rattle.sc_base.specs.Lists.{at_or, numbers_below}
use Rattle.sc_ids.specs.Graphs.{StageData}
use Rattle.sc_ids.specs.LimitDefaults.{default_limits}
use Rattle.sc_ids.specs.declared.limits.Limits.{Limits}
use Rattle.sc_taskset.specs.Lookups.{are_finished}
use Rattle.sc_taskset.specs.TaskSetData.{TaskSetData}
use Rattle.sc_tracker.specs.TrackerData.{TrackerData}
use Rattle.sc_dag.specs.DagData.{DagData, StageState, dag_data, no_stage}
use Rattle.sc_dag.specs.Losses.{without_executor}
use Rattle.sc_dag.specs.Openings.{blank_states}
use Rattle.sc_dag.specs.Outputs.{has_inputs, is_complete, is_complete_by, results_in}
use Rattle.sc_dag.specs.Submission.{as_waiting, is_asked_for, is_idle_in, started, this_stage, waits_in}
use Rattle.sc_dag.specs.declared.attempts.StageAttempt.{StageAttempt}
use Rattle.sc_dag.specs.declared.fates.Fate.{Fate}
use Rattle.sc_dag.specs.declared.fates.Fate.TheVariants.{Starts, Stays, Waits}
use Rattle.sc_dag.specs.declared.fates.Submitted.{Submitted}
use Rattle.sc_dag.specs.declared.fates.Submitted.TheVariants.{Stage, Waiting}

-- a stage of a job
pub record RowData : Type 0 where
  -- what never changes of it
  pub stage : StageData
  -- what becomes of it
  pub state : StageState
  -- whether it has room for one more attempt
  pub is_ready : Bool

-- a row with these parts
abbrev pub row_data : StageData → StageState → Bool → RowData
row_data stage state is_ready = record { stage = stage; state = state; is_ready = is_ready }

-- a state with these parts
abbrev pub state_of : ℕ → List StageAttempt → Bool → List Bool → List Bool → StageState
state_of before attempts waits results held =
    record {
      before = before;
      attempts = attempts;
      waits = waits;
      results = results;
      held = held;
    }

-- the stages of rows
abbrev pub stages_of : List RowData → List StageData
stages_of rows = map (λ r. r.stage) rows

-- what becomes of the stages of rows
abbrev pub states_of : List RowData → List StageState
states_of rows = map (λ r. r.state) rows

-- which rows have room for one more attempt
abbrev pub ready_of : List RowData → List Bool
ready_of rows = map (λ r. r.is_ready) rows

-- all rows have room for one more attempt
abbrev pub are_ready : List RowData → Bool
are_ready rows = list_all (λ b. b) (ready_of rows)

-- the stages of a job that rows hold
abbrev pub dag_of : List RowData → TrackerData → Limits → DagData
dag_of rows tracker limits = dag_data (stages_of rows) (states_of rows) tracker limits

-- the same where the limits of the run don't matter
abbrev pub outlook : List RowData → TrackerData → DagData
outlook rows tracker = dag_of rows tracker default_limits

-- the parents of each stage have smaller numbers
abbrev pub AreOlder : List StageData → Type 0
AreOlder stages = (s : ℕ) → All (λ parent. parent < s) (at_or stages s no_stage).parents

-- all tasks of a set that may be there are finished
abbrev pub are_finished_in : Option TaskSetData → Bool
are_finished_in None = false
are_finished_in (Some set) = are_finished set.tasks

-- the first so many partitions have results
abbrev pub all_have_results : List Bool → ℕ → Bool
all_have_results results tasks = list_all (λ p. at_or results p false) (numbers_below tasks)

-- the stage of a number among rows is complete
abbrev pub is_complete_in : List RowData → TrackerData → ℕ → Bool
is_complete_in rows t s =
    is_complete_by t (at_or (stages_of rows) s no_stage) (results_in (slice_get (states_of rows) s))

-- a row whose stage was told that an executor is lost
abbrev pub row_without_executor : ℕ → RowData → RowData
row_without_executor exec r = row_data r.stage (without_executor exec r.state) r.is_ready

-- ---- submission

-- what a submission makes of the stage of a number: nothing of one that isn't there
abbrev pub fate_at : List Fate → ℕ → Fate
fate_at fates s = at_or fates s Stays

-- a stage that this is made of is looked at
abbrev pub moves : Fate → Bool
moves Stays = false
moves Waits = true
moves Starts = true

-- the stage of a number is looked at
abbrev pub is_looked_at : List Fate → ℕ → Bool
is_looked_at fates s = moves (fate_at fates s)

-- a stage of this number and in this state is submitted
abbrev pub is_submitted_in : Submitted → ℕ → Option StageState → Bool
is_submitted_in (Stage stage) s state = this_stage stage s
is_submitted_in Waiting s state = waits_in state

-- the stages that are submitted
abbrev pub is_submitted : Submitted → DagData → ℕ → Bool
is_submitted submitted d s = is_submitted_in submitted s (slice_get d.states s)

-- a stage is to be looked at, where these are
abbrev pub is_to_look_at : DagData → (ℕ → Bool) → (ℕ → Bool) → ℕ → Bool
is_to_look_at d submitted looked s =
    not (is_complete d s)
    && (submitted s || (is_idle_in (slice_get d.states s) && is_asked_for d looked s))

-- what a submission makes of a stage, where these are looked at
abbrev pub fate_for : DagData → (ℕ → Bool) → (ℕ → Bool) → ℕ → Fate
fate_for d submitted looked s =
    if is_to_look_at d submitted looked s
    then (if has_inputs d s then Starts else Waits)
    else Stays

-- what a submission makes of the stages from a number on
abbrev pub AreFatesFrom : DagData → (ℕ → Bool) → ℕ → List Fate → Type 0
AreFatesFrom d submitted k fates =
    (s : ℕ) → k ≤ s → fate_at fates s ≡ fate_for d submitted (is_looked_at fates) s

-- what a submission makes of all stages
abbrev pub AreFates : DagData → (ℕ → Bool) → List Fate → Type 0
AreFates d submitted fates = AreFatesFrom d submitted 0 fates

-- what a submission makes of a stage suits it: one that starts has its inputs and isn't complete,
-- and one that waits lacks an input
abbrev pub SuitsFate : DagData → ℕ → Fate → Type 0
SuitsFate d s Stays = Unit {0}
SuitsFate d s Waits = has_inputs d s ≡ false
SuitsFate d s Starts = (has_inputs d s ≡ true) × (is_complete d s ≡ false)

-- what a submission makes of all stages suits them
abbrev pub SuitFates : DagData → List Fate → Type 0
SuitFates d fates = (s : ℕ) → SuitsFate d s (fate_at fates s)

-- a stage of which that is made
abbrev pub fated : Fate → TrackerData → Limits → StageData → StageState → StageState
fated Stays t limits stage state = state
fated Waits t limits stage state = as_waiting state
fated Starts t limits stage state = started t limits stage state

-- ---- the beginning of a job

-- nothing was done for the stages of rows in this job
abbrev pub AreBlank : Option DagData → List RowData → Type 0
AreBlank last rows = states_of rows ≡ blank_states last 0 (stages_of rows)
