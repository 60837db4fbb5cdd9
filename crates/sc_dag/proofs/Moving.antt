-- What a submission leaves.
use Rattle.std.proofs.Common.{◌≡◌, ℕ, ◌||◌, ◌&&◌, not, Bool, true, false, if◌then◌else◌, Option, Some, None, is_some, option_map, slice_get, refl, ap, sym, ◌∙◌, true≢false}
use Rattle.sc_ids.specs.Graphs.{StageData}
use Rattle.sc_ids.specs.declared.limits.Limits.{Limits}
use Rattle.sc_taskset.specs.Reports.{as_zombie}
use Rattle.sc_taskset.specs.TaskSetData.{TaskSetData}
use Rattle.sc_tracker.specs.TrackerData.{TrackerData}
use Rattle.sc_dag.specs.DagData.{DagData, StageState, is_live, is_live_set, changed_newest, newest_at, newest_set, set_in, stage_at, stage_attempt, with_states}
use Rattle.sc_dag.specs.Outputs.{has_inputs, is_complete, is_complete_by, results_in}
use Rattle.sc_dag.specs.Settled.{goes_on, goes_on_in}
use Rattle.sc_dag.specs.Submission.{as_waiting, by_number, is_idle_in, moved_if, new_set, started, waiting_stages, waits_in}
use Rattle.sc_dag.proofs.Items.{by_number_at, last_is}

-- the states after it
abbrev pub after_looking : DagData → (ℕ → Bool) → DagData
after_looking d looked = with_states d (by_number (moved_if d looked) 0 d.states)

pub state_after :
    (d : DagData) (looked : ℕ → Bool) (s : ℕ)
    → slice_get (after_looking d looked).states s
    ≡ option_map (moved_if d looked s) (slice_get d.states s)
state_after d looked s = by_number_at (moved_if d looked) d.states s

-- a stage that isn't looked at stays as it is
pub state_kept :
    (d : DagData) (looked : ℕ → Bool) (s : ℕ) → looked s ≡ false
    → slice_get (after_looking d looked).states s ≡ slice_get d.states s
state_kept d looked s no_look = state_after d looked s ∙ by (slice_get d.states s)
  where
    by : (o : Option StageState) → option_map (moved_if d looked s) o ≡ o
    by None = refl
    by (Some state) = rw no_look refl

-- no result is lost or won
pub results_after :
    (d : DagData) (looked : ℕ → Bool) (s : ℕ)
    → results_in (slice_get (after_looking d looked).states s)
    ≡ results_in (slice_get d.states s)
results_after d looked s =
    ap results_in (state_after d looked s) ∙ by (slice_get d.states s)
  where
    moved : (a b : Bool) (state : StageState)
        → (if a then (if b then started d.tracker d.limits (stage_at d s) state
        else as_waiting state) else state).results ≡ state.results
    moved true true state = refl
    moved true false state = refl
    moved false b state = refl

    by : (o : Option StageState)
        → results_in (option_map (moved_if d looked s) o) ≡ results_in o
    by None = refl
    by (Some state) = moved (looked s) (has_inputs d s) state

-- so nothing is completed or lost
pub complete_after :
    (d : DagData) (looked : ℕ → Bool) (s : ℕ)
    → is_complete (after_looking d looked) s ≡ is_complete d s
complete_after d looked s =
    ap (is_complete_by d.tracker (stage_at d s)) (results_after d looked s)

-- the newest set of a stage that has started
pub newest_started :
    (t : TrackerData) (limits : Limits) (stage : StageData) (state : StageState)
    → newest_set (started t limits stage state)
    ≡ Some (new_set t limits stage state.results state.held)
newest_started t limits stage state =
    ap set_in
    (last_is (changed_newest as_zombie state).attempts
    (stage_attempt (new_set t limits stage state.results state.held) false))

-- a stage that is looked at goes on
pub looked_goes :
    (d : DagData) (looked : ℕ → Bool) (s : ℕ) → is_some (slice_get d.states s) ≡ true
    → looked s ≡ true → goes_on (after_looking d looked) s ≡ true
looked_goes d looked s there is =
    ap goes_on_in (state_after d looked s) ∙ by (slice_get d.states s) there
  where
    moved : (b : Bool) (state : StageState)
        → goes_on_in (Some (if b then started d.tracker d.limits (stage_at d s) state
        else as_waiting state)) ≡ true
    moved true state =
        ap (λ set. false || is_live_set set)
        (newest_started d.tracker d.limits (stage_at d s) state)
    moved false state = refl

    by : (o : Option StageState) → is_some o ≡ true
        → goes_on_in (option_map (moved_if d looked s) o) ≡ true
    by None none = absurd (true≢false (sym none))
    by (Some state) some = rw is (moved (has_inputs d s) state)

-- a stage that goes on does so after it
pub goes_after :
    (d : DagData) (looked : ℕ → Bool) (s : ℕ) → goes_on d s ≡ true
    → goes_on (after_looking d looked) s ≡ true
goes_after d looked s goes = by (looked s) refl
  where
    there : (o : Option StageState) → goes_on_in o ≡ true → is_some o ≡ true
    there None e = e
    there (Some state) e = refl

    by : (b : Bool) → looked s ≡ b → goes_on (after_looking d looked) s ≡ true
    by true is = looked_goes d looked s (there (slice_get d.states s) goes) is
    by false is = ap goes_on_in (state_kept d looked s is) ∙ goes

-- a stage that is there either goes on or is idle
pub busy : (o : Option StageState) → is_some o ≡ true → is_idle_in o ≡ false → goes_on_in o ≡ true
busy None e idle = absurd (true≢false (sym e))
busy (Some state) e idle = by state.waits (is_live state) idle
  where
    by : (a b : Bool) → (not a && not b) ≡ false → (a || b) ≡ true
    by true b h = refl
    by false true h = refl
    by false false h = absurd (true≢false h)

pub idle_dead : (o : Option StageState) → is_idle_in o ≡ true → goes_on_in o ≡ false
idle_dead None e = refl
idle_dead (Some state) e = by state.waits (is_live state) e
  where
    by : (a b : Bool) → (not a && not b) ≡ true → (a || b) ≡ false
    by true b h = absurd (true≢false (sym h))
    by false true h = absurd (true≢false (sym h))
    by false false h = refl

-- the newest set of a stage that may be there
abbrev pub newest_among : Option StageState → Option TaskSetData
newest_among None = None
newest_among (Some state) = newest_set state

-- a stage that waits after it, and was looked at, has no inputs
pub waits_looked :
    (d : DagData) (looked : ℕ → Bool) (s : ℕ) → looked s ≡ true
    → waiting_stages (after_looking d looked) s ≡ true → has_inputs d s ≡ false
waits_looked d looked s is w =
    by (slice_get d.states s) (sym (ap waits_in (state_after d looked s)) ∙ w)
  where
    moved : (b : Bool) (state : StageState) → has_inputs d s ≡ b
        → (if b then started d.tracker d.limits (stage_at d s) state else as_waiting state).waits
        ≡ true → b ≡ false
    moved true state e h = absurd (true≢false (sym h))
    moved false state e h = refl

    by : (o : Option StageState) → waits_in (option_map (moved_if d looked s) o) ≡ true
        → has_inputs d s ≡ false
    by None h = absurd (true≢false (sym h))
    by (Some state) h = moved (has_inputs d s) state refl (rw is at h)

-- and its newest set is as it was
pub newest_looked :
    (d : DagData) (looked : ℕ → Bool) (s : ℕ) → has_inputs d s ≡ false
    → newest_at (after_looking d looked) s ≡ newest_at d s
newest_looked d looked s none =
    ap newest_among (state_after d looked s) ∙ by (slice_get d.states s)
  where
    moved : (b : Bool) (state : StageState)
        → newest_set (if b then as_waiting state else state) ≡ newest_set state
    moved true state = refl
    moved false state = refl

    by : (o : Option StageState)
        → newest_among (option_map (moved_if d looked s) o) ≡ newest_among o
    by None = refl
    by (Some state) = rw none (moved (looked s) state)
