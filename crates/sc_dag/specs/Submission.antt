-- Which stages are looked at when some are submitted, and what becomes of them.
use Rattle.std.specs.Prelude.{ℕ, suc, ◌≡◌, ◌==◌, ◌&&◌, ◌||◌, not, List, [], ◌∷◌, ◌++◌, Bool, true, false, Option, Some, None, if◌then◌else◌, length, map, slice_get}
use Rattle.std.specs.List.{list_any}
use Rattle.sc_base.specs.Lists.{at_or, numbers_below}
use Rattle.sc_ids.specs.Graphs.{StageData}
use Rattle.sc_ids.specs.declared.blocks.Target.{Target}
use Rattle.sc_ids.specs.declared.blocks.Target.TheVariants as targets
use Rattle.sc_ids.specs.declared.limits.Limits.{Limits}
use Rattle.sc_taskset.specs.Reports.{as_zombie, held_task}
use Rattle.sc_taskset.specs.TaskSetData.{TaskSetData, fresh_set, with_tasks}
use Rattle.sc_tracker.specs.TrackerData.{TrackerData}
use Rattle.sc_dag.specs.DagData.{DagData, StageState, changed_newest, is_live, stage_at, stage_attempt, with_states}
use Rattle.sc_dag.specs.Outputs.{has_inputs, is_complete, missing_by}

abbrev pub is_map : Target → Bool
is_map (targets.Map shuffle) = true
is_map (targets.Result node) = false

-- a stage that neither hands out tasks nor waits
abbrev pub is_idle : StageState → Bool
is_idle state = not state.waits && not (is_live state)

abbrev pub is_idle_in : Option StageState → Bool
is_idle_in None = false
is_idle_in (Some state) = is_idle state

-- a stage reads outputs of another
abbrev pub reads : DagData → ℕ → ℕ → Bool
reads d child parent = list_any (λ p. p == parent) (stage_at d child).parents

-- a stage that is looked at reads outputs of this one
abbrev pub is_asked_for : DagData → (ℕ → Bool) → ℕ → Bool
is_asked_for d looked s =
    list_any (λ child. looked child && reads d child s) (numbers_below (length d.stages))

-- The stages that are looked at when some are submitted: a stage that isn't complete is, where it
-- is one of these, or where it is idle and a stage that is looked at reads its outputs. Since
-- parents have smaller numbers, no other set of stages is so.
abbrev pub AreLookedAt : DagData → (ℕ → Bool) → (ℕ → Bool) → Type 0
AreLookedAt d submitted looked =
    (s : ℕ) → looked s
    ≡ (not (is_complete d s)
    && (submitted s || (is_idle_in (slice_get d.states s) && is_asked_for d looked s)))

-- a task set each of whose tasks is held back as the flag of its partition says
abbrev pub held_by : List Bool → TaskSetData → TaskSetData
held_by flags set =
    with_tasks set (map (λ t. held_task (at_or flags t.partition false) t) set.tasks)

-- the task set of a new attempt: the partitions that aren't done, by results and the tracker, and
-- those held back that were
abbrev pub new_set : TrackerData → Limits → StageData → List Bool → List Bool → TaskSetData
new_set t limits stage results held =
    held_by held (fresh_set (missing_by t stage results) (is_map stage.target) limits t.epoch)

-- a stage with a new attempt; those before start nothing more
abbrev pub started : TrackerData → Limits → StageData → StageState → StageState
started t limits stage state =
    record state {
      waits = false;
      attempts = (changed_newest as_zombie state).attempts
          ++ stage_attempt (new_set t limits stage state.results state.held) false ∷ [];
    }

-- a stage that waits for its parents
abbrev pub as_waiting : StageState → StageState
as_waiting state = record state { waits = true }

-- a stage that is looked at: it starts where its inputs are there, and waits where they aren't
abbrev pub moved_on : DagData → ℕ → StageState → StageState
moved_on d s state =
    if has_inputs d s then started d.tracker d.limits (stage_at d s) state else as_waiting state

abbrev pub moved_if : DagData → (ℕ → Bool) → ℕ → StageState → StageState
moved_if d looked s state = if looked s then moved_on d s state else state

-- items changed by their numbers, from one number on
abbrev pub by_number : {A : Type 0} → (ℕ → A → A) → ℕ → List A → List A
by_number change n [] = []
by_number change n (x ∷ xs) = change n x ∷ by_number change (suc n) xs

-- What a submission of stages leaves. No order in which they are looked at can be told from it.
abbrev pub IsSubmitted : DagData → (ℕ → Bool) → DagData → Type 0
IsSubmitted d submitted after =
    (looked : ℕ → Bool) × AreLookedAt d submitted looked
    × (after ≡ with_states d (by_number (moved_if d looked) 0 d.states))

-- the stage of one number alone
abbrev pub this_stage : ℕ → ℕ → Bool
this_stage stage s = s == stage

abbrev pub waits_in : Option StageState → Bool
waits_in None = false
waits_in (Some state) = state.waits

-- the stages that wait
abbrev pub waiting_stages : DagData → ℕ → Bool
waiting_stages d s = waits_in (slice_get d.states s)
