-- What calls that start no stage leave of when attempts began.
use Rattle.std.proofs.Common.{◌≡◌, ℕ, ◌-◌, Bool, true, false, if◌then◌else◌, length, Option, Some, None, option_map, slice_get, refl, sym, subst, arith, true≢false}
use Rattle.std.proofs.lemmas.Option.{slice_get-map}
use Rattle.sc_ids.specs.declared.attempts.AttemptId.{AttemptId}
use Rattle.sc_ids.specs.declared.failures.FailureCause.{FailureCause}
use Rattle.sc_taskset.specs.Offers.{handed}
use Rattle.sc_taskset.specs.Reports.{after_end, after_failure, after_held, after_loss, after_success}
use Rattle.sc_taskset.specs.TaskSetData.{TaskSetData}
use Rattle.sc_tracker.specs.Tracking.{after_gone}
use Rattle.sc_tracker.specs.Trust.{is_live, is_newer}
use Rattle.sc_dag.specs.DagData.{DagData, StageState, changed_newest, changed_set, place_of_attempt, stage_at, with_set, with_state}
use Rattle.sc_dag.specs.Losses.{after_lost, after_seen, without_executor}
use Rattle.sc_dag.specs.Offers.{handed_out}
use Rattle.sc_dag.specs.Outputs.{is_complete}
use Rattle.sc_dag.specs.Reports.{after_failed, after_hold, after_result_success, completed, completed_if, ended_in_own, failed_attempt, forgiven, in_own_set, is_of_newest, is_repeat, succeeded_in_both, succeeded_in_own, told_held, with_failed, with_result}
use Rattle.sc_dag.specs.Sound.{IsSoundDag}
use Rattle.sc_dag.specs.Submission.{is_map}
use Rattle.sc_dag.proofs.Tests.{clash}
use Rattle.sc_epochs.specs.Apart.{AreBornApart}
use Rattle.sc_epochs.proofs.ApartLemmas.{Never, Stills, Tamed, TamesAt, apart_risen, stills_apart, stills_then, stills_with, tamed_tracker}
use Rattle.sc_epochs.proofs.TameLemmas.{Tames, TamesState, state_changed, state_mapped, state_same, tames_end, tames_failure, tames_handed, tames_hold, tames_loss, tames_same, tames_success, tames_zombie}

-- ---- task sets

own_stills : (E : ℕ → ℕ → Type 0) (d : DagData) (a : AttemptId) (g : TaskSetData → TaskSetData)
    → ((set : TaskSetData) → Tames (E a.stage) set (g set)) → Stills E d (in_own_set d a g)
own_stills E d a g each =
    stills_with E d a.stage (changed_set a.stage_attempt g)
    (λ state. state_changed (E a.stage) state (place_of_attempt state a.stage_attempt) (with_set g)
    (λ x. each x.set))

newest_stills : (E : ℕ → ℕ → Type 0) (d : DagData) (s : ℕ) (g : TaskSetData → TaskSetData)
    → ((set : TaskSetData) → Tames (E s) set (g set))
    → Stills E d (with_state d s (changed_newest g))
newest_stills E d s g each =
    stills_with E d s (changed_newest g)
    (λ state. state_changed (E s) state (length state.attempts - 1) (with_set g)
    (λ x. each x.set))

pub handed_stills : (E : ℕ → ℕ → Type 0) (d : DagData) (a : AttemptId) (exec now : ℕ)
    → Stills E d (handed_out d a exec now)
handed_stills E d a exec now =
    newest_stills E d a.stage (λ set. handed set a.partition exec now)
    (tames_handed (E a.stage) a.partition exec now)

pub ended_stills : (E : ℕ → ℕ → Type 0) (d : DagData) (a : AttemptId)
    → Stills E d (ended_in_own d a)
ended_stills E d a =
    own_stills E d a (λ set. after_end set a.partition a.nth)
    (tames_end (E a.stage) a.partition a.nth)

pub failed_stills : (E : ℕ → ℕ → Type 0) (d : DagData) (a : AttemptId) (cause : FailureCause)
    → Stills E d (after_failed d a cause)
failed_stills E d a cause =
    own_stills E d a (λ set. after_failure set a.partition a.nth cause)
    (tames_failure (E a.stage) a.partition a.nth cause)

pub hold_stills : (E : ℕ → ℕ → Type 0) (d : DagData) (s p : ℕ) (denied : Bool)
    → Stills E d (after_hold d s p denied)
hold_stills E d s p denied = stills_with E d s (told_held p denied) told
  where
    told : (state : StageState) → TamesState (E s) state (told_held p denied state)
    told state =
        let h = state_changed (E s) state (length state.attempts - 1)
        (with_set (λ set. after_held set p denied)) (λ x. tames_hold (E s) p denied x.set) in
        record { births = h.births; waits = h.waits; newest = h.newest }

-- a success finishes its partition alone
pub success_stills : (E : ℕ → ℕ → Type 0) (d : DagData) (a : AttemptId) (now : ℕ)
    → E a.stage a.partition → Stills E d (succeeded_in_own d a now)
success_stills E d a now own =
    own_stills E d a (λ set. after_success set a.partition (Some a.nth) now)
    (tames_success (E a.stage) a.partition (Some a.nth) now own)

pub both_still : (E : ℕ → ℕ → Type 0) (d : DagData) (a : AttemptId) (now : ℕ)
    → E a.stage a.partition → Stills E d (succeeded_in_both d a now)
both_still E d a now own = by (is_of_newest d a)
  where
    by : (b : Bool) → Stills E d
        (if b then succeeded_in_own d a now
        else with_state (succeeded_in_own d a now) a.stage
        (changed_newest (λ set. after_success set a.partition None now)))
    by true = success_stills E d a now own
    by false =
        stills_then E d (succeeded_in_own d a now) _ (success_stills E d a now own)
        (newest_stills E (succeeded_in_own d a now) a.stage
        (λ set. after_success set a.partition None now)
        (tames_success (E a.stage) a.partition None now own))

-- ---- stages

pub completed_stills : (E : ℕ → ℕ → Type 0) (d : DagData) (s : ℕ)
    → Stills E d (with_state d s completed)
completed_stills E d s =
    stills_with E d s completed
    (λ state. state_mapped (E s) state (completed state) forgiven (λ x. tames_same (E s) x.set)
    refl (λ w. absurd (true≢false (sym w))))

pub marked_stills : (E : ℕ → ℕ → Type 0) (d : DagData) (s number : ℕ)
    → Stills E d (with_state d s (with_failed number))
marked_stills E d s number =
    stills_with E d s (with_failed number)
    (λ state. state_changed (E s) state (place_of_attempt state number) failed_attempt
    (λ x. tames_zombie (E s) x.set))

-- of a result stage no output is asked for
abbrev OfStage : ℕ → ℕ → ℕ → Type 0
OfStage own s p = s ≡ own

result_stills : (d : DagData) (a : AttemptId) (now : ℕ)
    → Stills (OfStage a.stage) d (after_result_success d a now)
result_stills d a now = by (is_repeat d a)
  where
    E : ℕ → ℕ → Type 0
    E = OfStage a.stage

    mid : DagData
    mid = with_state (succeeded_in_both d a now) a.stage (with_result a.partition)

    same : (state : StageState)
        → TamesState (OfStage a.stage a.stage) state (with_result a.partition state)
    same state =
        let h = state_same (OfStage a.stage a.stage) state in
        record { births = h.births; waits = h.waits; newest = h.newest }

    won : Stills (OfStage a.stage) d
        (with_state (succeeded_in_both d a now) a.stage (with_result a.partition))
    won =
        stills_then E d (succeeded_in_both d a now) mid (both_still E d a now refl)
        (stills_with E (succeeded_in_both d a now) a.stage (with_result a.partition) same)

    done : (b : Bool) → Stills (OfStage a.stage) d
        (if b then with_state mid a.stage completed else mid)
    done true =
        stills_then E d mid (with_state mid a.stage completed) won
        (completed_stills E mid a.stage)
    done false = won

    by : (x : Bool) → Stills (OfStage a.stage) d
        (if x then ended_in_own d a else completed_if mid a.stage)
    by true = ended_stills E d a
    by false = done (is_complete mid a.stage)

pub result_apart : (d : DagData) (a : AttemptId) (now : ℕ)
    → is_map (stage_at d a.stage).target ≡ false → AreBornApart d
    → AreBornApart (after_result_success d a now)
result_apart d a now kind apart =
    stills_apart (OfStage a.stage) d (after_result_success d a now) (result_stills d a now)
    (λ s p set map is newest lacks. absurd (clash
    (subst (λ (n : ℕ). is_map (stage_at d n).target ≡ true) is map) kind))
    apart

-- ---- events

-- anything may be left where the epoch rises
abbrev Any : ℕ → ℕ → Type 0
Any s p = Unit {0}

pub seen_apart : (d : DagData) (exec found : ℕ) → IsSoundDag d
    → is_newer (slice_get d.tracker.trust exec) found ≡ true → AreBornApart d
    → AreBornApart (after_seen d exec found)
seen_apart d exec found sound newer apart =
    apart_risen Never d (after_seen d exec found)
    (tamed_tracker Never d (after_gone d.tracker exec found)) sound
    (rw newer (omega arith)) apart

lost_tamed : (d : DagData) (exec : ℕ) → Tamed Any d (after_lost d exec)
lost_tamed d exec =
    record {
      stages = refl;
      each = λ s. rw (slice_get-map (without_executor exec) d.states s)
          (by s (slice_get d.states s));
    }
  where
    by : (s : ℕ) (o : Option StageState) → TamesAt (Any s) o (option_map (without_executor exec) o)
    by s None = tt
    by s (Some state) =
        state_mapped (Any s) state (without_executor exec state)
        (with_set (λ set. after_loss set exec)) (λ x. tames_loss (Any s) (λ p. tt) exec x.set) refl
        (λ w. w)

pub lost_apart : (d : DagData) (exec : ℕ) → IsSoundDag d
    → is_live (slice_get d.tracker.trust exec) ≡ true → AreBornApart d
    → AreBornApart (after_lost d exec)
lost_apart d exec sound live apart =
    apart_risen Any d (after_lost d exec) (lost_tamed d exec) sound
    (rw live (omega arith)) apart
