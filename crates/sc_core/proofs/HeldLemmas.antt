-- What each call that changes the stages of a job leaves of which partitions are held back.
use Rattle.std.proofs.Common.{◌≡◌, ℕ, ◌==◌, Bool, true, false, if◌then◌else◌, Option, Some, None, option_map, slice_get, refl, ap, sym, subst, ◌∙◌, arith}
use Rattle.std.proofs.lemmas.Bool.Decides.{nat_tests}
use Rattle.std.proofs.lemmas.Option.{slice_get-map}
use Rattle.sc_ids.specs.Changes.{change_at}
use Rattle.sc_ids.specs.declared.attempts.AttemptId.{AttemptId}
use Rattle.sc_ids.specs.declared.blocks.Loc.{Loc}
use Rattle.sc_ids.specs.declared.failures.FailureCause.{FailureCause}
use Rattle.sc_ids.proofs.ChangeLemmas.{slice_get_change_other, slice_get_change_same}
use Rattle.sc_taskset.specs.Offers.{handed}
use Rattle.sc_taskset.specs.Reports.{after_end, after_failure, after_success}
use Rattle.sc_taskset.specs.TaskSetData.{TaskSetData}
use Rattle.sc_taskset.specs.declared.tasks.Verdict.{Verdict}
use Rattle.sc_taskset.specs.declared.tasks.Verdict.TheVariants as verdicts
use Rattle.sc_tracker.specs.Tracking.{is_bogus}
use Rattle.sc_dag.specs.DagData.{DagData, StageState, changed_newest, changed_set, stage_at, with_state}
use Rattle.sc_dag.specs.Losses.{after_lost, without_executor}
use Rattle.sc_dag.specs.Offers.{handed_out}
use Rattle.sc_dag.specs.Outputs.{has_inputs, held_in, is_complete}
use Rattle.sc_dag.specs.Reports.{CompletesMap, FailsStage, after_failed, after_hold, after_map_success, after_result_success, completed, completed_if, ended_in_own, in_own_set, is_of_newest, is_repeat, succeeded_in_both, succeeded_in_own, told_held, with_failed, with_output, with_result}
use Rattle.sc_dag.specs.Submission.{IsSubmitted, as_waiting, moved_if, started, waiting_stages}
use Rattle.sc_dag.proofs.Items.{by_number_at}

-- the same partitions of each stage are held back
abbrev pub SameHeld : DagData → DagData → Type 0
SameHeld d after =
    (s : ℕ) → held_in (slice_get after.states s) ≡ held_in (slice_get d.states s)

pub held_then : (c d e : DagData) → SameHeld c d → SameHeld d e → SameHeld c e
held_then c d e h k s = k s ∙ h s

-- ---- one stage changed

state_held :
    (d : DagData) (s : ℕ) (change : StageState → StageState)
    → ((state : StageState) → (change state).held ≡ state.held)
    → SameHeld d (with_state d s change)
state_held d s change same r = by (s == r) refl
  where
    here : (o : Option StageState) → held_in (option_map change o) ≡ held_in o
    here None = refl
    here (Some state) = same state

    by : (x : Bool) → (s == r) ≡ x
        → held_in (slice_get (change_at d.states s change) r) ≡ held_in (slice_get d.states r)
    by true e =
        let is : s ≡ r = grind (arith, nat_tests, e) in
        subst (λ (r : ℕ). held_in (slice_get (change_at d.states s change) r)
        ≡ held_in (slice_get d.states r)) is
        (ap held_in (slice_get_change_same d.states s change) ∙ here (slice_get d.states s))
    by false e =
        ap held_in
        (slice_get_change_other d.states s r change (λ is. grind (arith, nat_tests, e, is)))

own_held :
    (d : DagData) (a : AttemptId) (g : TaskSetData → TaskSetData) → SameHeld d (in_own_set d a g)
own_held d a g = state_held d a.stage (changed_set a.stage_attempt g) (λ state. refl)

pub handed_held :
    (d : DagData) (a : AttemptId) (exec now : ℕ) → SameHeld d (handed_out d a exec now)
handed_held d a exec now =
    state_held d a.stage (changed_newest (λ set. handed set a.partition exec now)) (λ state. refl)

pub failed_held :
    (d : DagData) (a : AttemptId) (cause : FailureCause) → SameHeld d (after_failed d a cause)
failed_held d a cause = own_held d a (λ set. after_failure set a.partition a.nth cause)

ended_held : (d : DagData) (a : AttemptId) → SameHeld d (ended_in_own d a)
ended_held d a = own_held d a (λ set. after_end set a.partition a.nth)

success_held : (d : DagData) (a : AttemptId) (now : ℕ) → SameHeld d (succeeded_in_own d a now)
success_held d a now = own_held d a (λ set. after_success set a.partition (Some a.nth) now)

both_held : (d : DagData) (a : AttemptId) (now : ℕ) → SameHeld d (succeeded_in_both d a now)
both_held d a now = by (is_of_newest d a)
  where
    by : (b : Bool) → SameHeld d
        (if b then succeeded_in_own d a now
        else with_state (succeeded_in_own d a now) a.stage
        (changed_newest (λ set. after_success set a.partition None now)))
    by true = success_held d a now
    by false =
        held_then d (succeeded_in_own d a now)
        (with_state (succeeded_in_own d a now) a.stage
        (changed_newest (λ set. after_success set a.partition None now))) (success_held d a now)
        (state_held (succeeded_in_own d a now) a.stage
        (changed_newest (λ set. after_success set a.partition None now)) (λ state. refl))

-- ---- successes

pub map_held : (d : DagData) (a : AttemptId) (loc : Loc) (epoch now : ℕ)
    → SameHeld d (after_map_success d a loc epoch now)
map_held d a loc epoch now = by (is_repeat d a) (is_bogus d.tracker loc epoch)
  where
    by : (x y : Bool) → SameHeld d
        (if x then ended_in_own d a else if y then succeeded_in_own d a now
        else succeeded_in_both (with_output d a loc) a now)
    by true y = ended_held d a
    by false true = success_held d a now
    by false false = both_held (with_output d a loc) a now

pub result_held : (d : DagData) (a : AttemptId) (now : ℕ)
    → SameHeld d (after_result_success d a now)
result_held d a now = by (is_repeat d a)
  where
    mid : DagData
    mid = with_state (succeeded_in_both d a now) a.stage (with_result a.partition)

    won : SameHeld d mid
    won =
        held_then d (succeeded_in_both d a now) mid (both_held d a now)
        (state_held (succeeded_in_both d a now) a.stage (with_result a.partition) (λ state. refl))

    done : (b : Bool) → SameHeld d (if b then with_state mid a.stage completed else mid)
    done true =
        held_then d mid (with_state mid a.stage completed) won
        (state_held mid a.stage completed (λ state. refl))
    done false = won

    by : (x : Bool) → SameHeld d (if x then ended_in_own d a else completed_if mid a.stage)
    by true = ended_held d a
    by false = done (is_complete mid a.stage)

-- ---- submissions

pub submitted_held :
    (d after : DagData) (submitted : ℕ → Bool) → IsSubmitted d submitted after → SameHeld d after
submitted_held d after submitted (looked, are, is) =
    subst (λ x. SameHeld d x) (sym is)
    (λ s. ap held_in (by_number_at (moved_if d looked) d.states s) ∙ by s (slice_get d.states s))
  where
    moved : (s : ℕ) (state : StageState) (a b : Bool)
        → (if a then (if b then started d.tracker d.limits (stage_at d s) state
        else as_waiting state) else state).held ≡ state.held
    moved s state true true = refl
    moved s state true false = refl
    moved s state false b = refl

    by : (s : ℕ) (o : Option StageState)
        → held_in (option_map (moved_if d looked s) o) ≡ held_in o
    by s None = refl
    by s (Some state) = moved s state (looked s) (has_inputs d s)

pub completes_held :
    (d : DagData) (s : ℕ) (after : DagData) → CompletesMap d s after → SameHeld d after
completes_held d s after is =
    held_then d (with_state d s completed) after (state_held d s completed (λ state. refl))
    (submitted_held (with_state d s completed) after
    (waiting_stages (with_state d s completed)) is)

pub fails_held :
    (d : DagData) (s number : ℕ) (verdict : Verdict) (after : DagData)
    → FailsStage d s number verdict after → SameHeld d after
fails_held d s number verdicts.Limit after (often, is) =
    subst (λ x. SameHeld d x) (sym is) (state_held d s (with_failed number) (λ state. refl))
fails_held d s number verdicts.Again after (often, is) =
    held_then d (with_state d s (with_failed number)) after
    (state_held d s (with_failed number) (λ state. refl))
    (submitted_held (with_state d s (with_failed number)) after (λ r. r == s) is)

-- ---- losses

pub lost_held : (d : DagData) (exec : ℕ) → SameHeld d (after_lost d exec)
lost_held d exec s =
    ap held_in (slice_get-map (without_executor exec) d.states s) ∙ kept (slice_get d.states s)
  where
    kept : (o : Option StageState) → held_in (option_map (without_executor exec) o) ≡ held_in o
    kept None = refl
    kept (Some state) = refl

-- ---- a partition held back, or not any more

-- the flags of a stage with one put in its place
pub hold_here : (d : DagData) (s p : ℕ) (denied : Bool)
    → held_in (slice_get (after_hold d s p denied).states s)
    ≡ change_at (held_in (slice_get d.states s)) p (λ b. denied)
hold_here d s p denied =
    ap held_in (slice_get_change_same d.states s (told_held p denied))
    ∙ by (slice_get d.states s)
  where
    by : (o : Option StageState)
        → held_in (option_map (told_held p denied) o) ≡ change_at (held_in o) p (λ b. denied)
    by None = refl
    by (Some state) = refl

-- other stages keep theirs
pub hold_other : (d : DagData) (s r p : ℕ) (denied : Bool) → (s == r) ≡ false
    → held_in (slice_get (after_hold d s p denied).states r) ≡ held_in (slice_get d.states r)
hold_other d s r p denied e =
    ap held_in
    (slice_get_change_other d.states s r (told_held p denied)
    (λ is. grind (arith, nat_tests, e, is)))
