-- What the calls that tell of tasks do to the attempts that run.
use Rattle.std.proofs.Common.{◌≡◌, ℕ, zero, suc, ◌+◌, Bool, true, false, if◌then◌else◌, List, [], ◌∷◌, map, Option, Some, None, slice_get, refl}
use Rattle.sc_ids.specs.Changes.{change_at}
use Rattle.sc_ids.specs.declared.attempts.AttemptId.{AttemptId}
use Rattle.sc_ids.specs.declared.blocks.BlockId.{BlockId}
use Rattle.sc_ids.specs.declared.blocks.Loc.{Loc}
use Rattle.sc_ids.specs.declared.failures.FailureCause.{FailureCause}
use Rattle.sc_commit.specs.Committing.{is_same}
use Rattle.sc_taskset.specs.Reports.{after_end, after_failure, after_held, after_success}
use Rattle.sc_tracker.specs.TrackerData.{tracker_data}
use Rattle.sc_tracker.specs.Tracking.{is_bogus, with_forgotten_on}
use Rattle.sc_tracker.specs.Trust.{is_newer, seen_at, trust_at}
use Rattle.sc_tracker.specs.declared.trust.Trust.{Trust}
use Rattle.sc_taskset.specs.TaskSetData.{TaskSetData}
use Rattle.sc_dag.specs.DagData.{DagData, StageState, changed_newest, changed_set, stage_at, with_set, with_state, with_tracker}
use Rattle.sc_dag.specs.Losses.{after_seen}
use Rattle.sc_dag.specs.Outputs.{is_complete}
use Rattle.sc_dag.specs.Reports.{after_failed, after_hold, after_map_success, after_result_success, block_by, completed, completed_if, ended_in_own, in_own_set, is_of_newest, is_repeat, registered_by, succeeded_in_both, succeeded_in_own, told_held, with_output, with_result}
use Rattle.sc_ids.proofs.ChangeLemmas.{length_change_at}
use Rattle.sc_core.proofs.MoveLemmas.{Calm, Moves, SameResults, calm_then, moves_then, results_then, state_calm, state_moves, state_results, tracker_calm}
use Rattle.sc_core.proofs.SetLemmas.{MovesIn, is_copy_of, nothing}
use Rattle.sc_core.proofs.SetCallLemmas.{end_ends, failure_ends, hold_calm, success_calm, success_ends}
use Rattle.sc_core.proofs.StateLemmas.{MovesOf, attempt_moves}
use Rattle.sc_core.proofs.StateChangeLemmas.{completed_calm, newest_calm, result_calm}

-- ---- an attempt's end in its own set

own_ends :
    (d : DagData) (a : AttemptId) (change : TaskSetData → TaskSetData)
    → ((set : TaskSetData) → MovesIn (is_copy_of a) None set (change set))
    → Moves (is_same a) None d (in_own_set d a change)
own_ends d a change ends =
    state_moves d a None (changed_set a.stage_attempt change)
    (λ state e. attempt_moves a None (with_set change) state (λ x at. ends x.set) (λ e. refl))
    (λ e. refl)

own_results :
    (d : DagData) (a : AttemptId) (change : TaskSetData → TaskSetData)
    → SameResults d (in_own_set d a change)
own_results d a change =
    state_results d a.stage (changed_set a.stage_attempt change) (λ state. refl)

pub ended_moves : (d : DagData) (a : AttemptId) → Moves (is_same a) None d (ended_in_own d a)
ended_moves d a =
    own_ends d a (λ set. after_end set a.partition a.nth) (λ set. end_ends set a)

pub ended_results : (d : DagData) (a : AttemptId) → SameResults d (ended_in_own d a)
ended_results d a = own_results d a (λ set. after_end set a.partition a.nth)

pub failed_moves : (d : DagData) (a : AttemptId) (cause : FailureCause)
    → Moves (is_same a) None d (after_failed d a cause)
failed_moves d a cause =
    own_ends d a (λ set. after_failure set a.partition a.nth cause)
    (λ set. failure_ends set a cause)

pub failed_results : (d : DagData) (a : AttemptId) (cause : FailureCause)
    → SameResults d (after_failed d a cause)
failed_results d a cause = own_results d a (λ set. after_failure set a.partition a.nth cause)

own_moves : (d : DagData) (a : AttemptId) (now : ℕ)
    → Moves (is_same a) None d (succeeded_in_own d a now)
own_moves d a now =
    own_ends d a (λ set. after_success set a.partition (Some a.nth) now)
    (λ set. success_ends set a now)

both_moves : (d : DagData) (a : AttemptId) (now : ℕ)
    → Moves (is_same a) None d (succeeded_in_both d a now)
both_moves d a now = by (is_of_newest d a)
  where
    by : (b : Bool) → Moves (is_same a) None d
        (if b then succeeded_in_own d a now
        else with_state (succeeded_in_own d a now) a.stage
        (changed_newest (λ set. after_success set a.partition None now)))
    by true = own_moves d a now
    by false =
        moves_then (is_same a) None d (succeeded_in_own d a now) _ (own_moves d a now)
        (state_calm (succeeded_in_own d a now) a.stage
        (changed_newest (λ set. after_success set a.partition None now))
        (λ state. newest_calm (λ set. after_success set a.partition None now) state
        (λ set. success_calm set a.partition now)))

pub both_results : (d : DagData) (a : AttemptId) (now : ℕ)
    → SameResults d (succeeded_in_both d a now)
both_results d a now = by (is_of_newest d a)
  where
    own : SameResults d (succeeded_in_own d a now)
    own = own_results d a (λ set. after_success set a.partition (Some a.nth) now)

    by : (b : Bool) → SameResults d
        (if b then succeeded_in_own d a now
        else with_state (succeeded_in_own d a now) a.stage
        (changed_newest (λ set. after_success set a.partition None now)))
    by true = own
    by false =
        results_then d (succeeded_in_own d a now)
        (with_state (succeeded_in_own d a now) a.stage
        (changed_newest (λ set. after_success set a.partition None now))) own
        (state_results (succeeded_in_own d a now) a.stage
        (changed_newest (λ set. after_success set a.partition None now)) (λ state. refl))

-- ---- successes

output_calm : (d : DagData) (a : AttemptId) (loc : Loc) → Calm d (with_output d a loc)
output_calm d a loc = by (block_by (stage_at d a.stage).target a.partition)
  where
    by : (o : Option BlockId) → Calm d (with_tracker d (registered_by d.tracker o loc))
    by None = tracker_calm d d.tracker refl (λ e. refl)
    by (Some block) =
        tracker_calm d (registered_by d.tracker (Some block) loc) refl (λ e. refl)

pub map_moves : (d : DagData) (a : AttemptId) (loc : Loc) (epoch now : ℕ)
    → Moves (is_same a) None d (after_map_success d a loc epoch now)
map_moves d a loc epoch now = by (is_repeat d a) (is_bogus d.tracker loc epoch)
  where
    by : (x y : Bool) → Moves (is_same a) None d
        (if x then ended_in_own d a else if y then succeeded_in_own d a now
        else succeeded_in_both (with_output d a loc) a now)
    by true y = ended_moves d a
    by false true = own_moves d a now
    by false false =
        calm_then (is_same a) None d (with_output d a loc) _ (output_calm d a loc)
        (both_moves (with_output d a loc) a now)

pub map_results : (d : DagData) (a : AttemptId) (loc : Loc) (epoch now : ℕ)
    → SameResults d (after_map_success d a loc epoch now)
map_results d a loc epoch now = by (is_repeat d a) (is_bogus d.tracker loc epoch)
  where
    by : (x y : Bool) → SameResults d
        (if x then ended_in_own d a else if y then succeeded_in_own d a now
        else succeeded_in_both (with_output d a loc) a now)
    by true y = own_results d a (λ set. after_end set a.partition a.nth)
    by false true = own_results d a (λ set. after_success set a.partition (Some a.nth) now)
    by false false = both_results (with_output d a loc) a now

pub result_moves : (d : DagData) (a : AttemptId) (now : ℕ)
    → Moves (is_same a) None d (after_result_success d a now)
result_moves d a now = by (is_repeat d a)
  where
    mid : DagData
    mid = with_state (succeeded_in_both d a now) a.stage (with_result a.partition)

    won : Moves (is_same a) None d mid
    won =
        moves_then (is_same a) None d (succeeded_in_both d a now) mid (both_moves d a now)
        (state_calm (succeeded_in_both d a now) a.stage (with_result a.partition)
        (result_calm a.partition))

    done : (b : Bool)
        → Moves (is_same a) None d (if b then with_state mid a.stage completed else mid)
    done true =
        moves_then (is_same a) None d mid (with_state mid a.stage completed) won
        (state_calm mid a.stage completed completed_calm)
    done false = won

    by : (x : Bool) → Moves (is_same a) None d
        (if x then ended_in_own d a else completed_if mid a.stage)
    by true = ended_moves d a
    by false = done (is_complete mid a.stage)

-- ---- others

-- a partition held back, or not any more
told_calm : (p : ℕ) (denied : Bool) (state : StageState)
    → MovesOf nothing None (Some state) (Some (told_held p denied state))
told_calm p denied state =
    let moves =
    newest_calm (λ set. after_held set p denied) state (λ set. hold_calm set p denied) in
    record { runners = moves.runners; given = moves.given }

pub hold_calms : (d : DagData) (s p : ℕ) (denied : Bool) → Calm d (after_hold d s p denied)
hold_calms d s p denied = state_calm d s (told_held p denied) (told_calm p denied)

pub hold_results : (d : DagData) (s p : ℕ) (denied : Bool)
    → SameResults d (after_hold d s p denied)
hold_results d s p denied = state_results d s (told_held p denied) (λ state. refl)

pub seen_calm : (d : DagData) (exec found : ℕ) → Calm d (after_seen d exec found)
seen_calm d exec found = by (is_newer (slice_get d.tracker.trust exec) found)
  where
    lost_seen : (trust : List Trust) (i : ℕ) (epoch e : ℕ)
        → (trust_at (change_at trust i (seen_at found epoch)) e).lost ≡ (trust_at trust e).lost
    lost_seen [] i epoch e = refl
    lost_seen (t ∷ ts) zero epoch zero = refl
    lost_seen (t ∷ ts) zero epoch (suc e) = refl
    lost_seen (t ∷ ts) (suc i) epoch zero = refl
    lost_seen (t ∷ ts) (suc i) epoch (suc e) = lost_seen ts i epoch e

    by : (b : Bool) → Calm d (with_tracker d
        (if b then tracker_data (map (with_forgotten_on exec) d.tracker.shuffles)
        (change_at d.tracker.trust exec (seen_at found d.tracker.epoch)) (d.tracker.epoch + 1)
        else d.tracker))
    by true =
        tracker_calm d _
        (length_change_at d.tracker.trust exec (seen_at found d.tracker.epoch))
        (lost_seen d.tracker.trust exec d.tracker.epoch)
    by false = tracker_calm d d.tracker refl (λ e. refl)
