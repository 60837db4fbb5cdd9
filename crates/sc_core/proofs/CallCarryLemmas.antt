-- What each call that changes the stages of a job leaves of what was handed out.
use Rattle.std.proofs.Common.{◌≡◌, ℕ, ◌<◌, ◌≤◌, ◌==◌, Bool, true, false, if◌then◌else◌, [], ◌∷◌, length, Option, Some, None, option_map, slice_get, refl, ap, sym, subst, ◌∙◌, arith, true≢false}
use Rattle.sc_ids.specs.declared.attempts.AttemptId.{AttemptId}
use Rattle.sc_ids.specs.declared.blocks.Loc.{Loc}
use Rattle.sc_ids.specs.declared.blocks.Target.{Target}
use Rattle.sc_ids.specs.declared.blocks.Target.TheVariants as targets
use Rattle.sc_ids.specs.declared.failures.FailureCause.{FailureCause}
use Rattle.sc_taskset.specs.Offers.{handed}
use Rattle.sc_taskset.specs.Reports.{after_end, after_failure, after_held, after_loss, after_success}
use Rattle.sc_taskset.specs.TaskSetData.{TaskSetData}
use Rattle.sc_taskset.specs.declared.tasks.Verdict.{Verdict}
use Rattle.sc_taskset.specs.declared.tasks.Verdict.TheVariants as verdicts
use Rattle.sc_tracker.specs.TrackerData.{outputs_of}
use Rattle.sc_tracker.specs.Tracking.{is_bogus}
use Rattle.sc_tracker.specs.Trust.{is_live}
use Rattle.sc_dag.specs.DagData.{DagData, StageState, changed_newest, changed_set, newest_at, place_of_attempt, stage_at, with_state, with_tracker}
use Rattle.sc_dag.specs.Losses.{after_lost}
use Rattle.sc_dag.specs.Offers.{handed_out}
use Rattle.sc_dag.specs.Outputs.{block_of, has_inputs, is_complete}
use Rattle.sc_dag.specs.Reports.{CompletesMap, FailsStage, after_failed, after_hold, after_map_success, after_result_success, block_by, completed, completed_if, ended_in_own, failed_attempt, forgiven, in_own_set, is_of_newest, is_repeat, registered_by, set_of, succeeded_in_both, succeeded_in_own, told_held, wants_in, with_failed, with_output, with_result}
use Rattle.sc_dag.specs.Sound.{IsSoundDag, runner_of}
use Rattle.sc_dag.specs.Submission.{IsSubmitted, as_waiting, by_number, is_map, moved_if, started, waiting_stages}
use Rattle.sc_dag.proofs.Births.{births_changed, births_mapped, births_newest, births_own}
use Rattle.sc_dag.proofs.Items.{by_number_at}
use Rattle.sc_dag.proofs.Runners.{within}
use Rattle.sc_dag.proofs.Tests.{not_false}
use Rattle.sc_core.specs.Sound.{IsLive}
use Rattle.sc_core.proofs.CarryLemmas.{Carries, Lasts, carries_state, carries_states, carries_then, lasts_more, lasts_same}
use Rattle.sc_core.proofs.TrackerCarryLemmas.{lost_event, registered_carries}
use Rattle.sc_core.proofs.LossLemmas.{lost_set}
use Rattle.sc_dag.proofs.SoundSubmissions.{births_started}

-- ---- one set changed

own_carries :
    (d : DagData) (a : AttemptId) (g : TaskSetData → TaskSetData)
    → ((set : TaskSetData) → (g set).born ≡ set.born) → Carries d (in_own_set d a g)
own_carries d a g keeps =
    carries_state d a.stage (changed_set a.stage_attempt g)
    (λ state. lasts_same state (changed_set a.stage_attempt g state) refl
    (births_own a.stage_attempt g keeps state))

newest_carries :
    (d : DagData) (s : ℕ) (g : TaskSetData → TaskSetData)
    → ((set : TaskSetData) → (g set).born ≡ set.born)
    → Carries d (with_state d s (changed_newest g))
newest_carries d s g keeps =
    carries_state d s (changed_newest g)
    (λ state. lasts_same state (changed_newest g state) refl (births_newest g keeps state))

pub handed_carries :
    (d : DagData) (a : AttemptId) (exec now : ℕ) → Carries d (handed_out d a exec now)
handed_carries d a exec now =
    newest_carries d a.stage (λ set. handed set a.partition exec now) (λ set. refl)

pub failed_carries :
    (d : DagData) (a : AttemptId) (cause : FailureCause) → Carries d (after_failed d a cause)
failed_carries d a cause =
    own_carries d a (λ set. after_failure set a.partition a.nth cause) (λ set. refl)

pub hold_carries :
    (d : DagData) (s p : ℕ) (denied : Bool) → Carries d (after_hold d s p denied)
hold_carries d s p denied =
    carries_state d s (told_held p denied)
    (λ state. lasts_same state (told_held p denied state) refl
    (births_newest (λ set. after_held set p denied) (λ set. refl) state))

ended_carries : (d : DagData) (a : AttemptId) → Carries d (ended_in_own d a)
ended_carries d a = own_carries d a (λ set. after_end set a.partition a.nth) (λ set. refl)

success_carries : (d : DagData) (a : AttemptId) (now : ℕ) → Carries d (succeeded_in_own d a now)
success_carries d a now =
    own_carries d a (λ set. after_success set a.partition (Some a.nth) now) (λ set. refl)

both_carries : (d : DagData) (a : AttemptId) (now : ℕ) → Carries d (succeeded_in_both d a now)
both_carries d a now = by (is_of_newest d a)
  where
    by : (b : Bool) → Carries d
        (if b then succeeded_in_own d a now
        else with_state (succeeded_in_own d a now) a.stage
        (changed_newest (λ set. after_success set a.partition None now)))
    by true = success_carries d a now
    by false =
        carries_then d (succeeded_in_own d a now) _ (success_carries d a now)
        (newest_carries (succeeded_in_own d a now) a.stage
        (λ set. after_success set a.partition None now) (λ set. refl))

-- ---- successes

pub map_carries :
    (d : DagData) (a : AttemptId) (loc : Loc) (epoch now : ℕ) → IsSoundDag d
    → is_map (stage_at d a.stage).target ≡ true → runner_of d a ≡ Some loc.exec
    → IsLive d.tracker loc.exec → Carries d (after_map_success d a loc epoch now)
map_carries d a loc epoch now sound kind runs live =
    by (is_repeat d a) refl (is_bogus d.tracker loc epoch)
  where
    so : (target : Target) → (stage_at d a.stage).target ≡ target → is_map target ≡ true
        → wants_in (newest_at d a.stage) a.partition ≡ true
        → Carries d
        (with_tracker d (registered_by d.tracker (block_by target a.partition) loc))
    so (targets.Map shuffle) is k wants =
        let has : a.partition < (stage_at d a.stage).tasks =
        within d a loc.exec now sound runs wants in
        let fits : (stage_at d a.stage).tasks ≤ length (outputs_of d.tracker shuffle) =
        sound.stages.room a.stage shuffle is in
        registered_carries d (block_of shuffle a.partition) loc (omega (arith, has, fits)) live
    so (targets.Result node) is k wants = absurd (true≢false (sym k))

    by : (x : Bool) → is_repeat d a ≡ x → (y : Bool)
        → Carries d (if x then ended_in_own d a else if y then succeeded_in_own d a now
        else succeeded_in_both (with_output d a loc) a now)
    by true e y = ended_carries d a
    by false e true = success_carries d a now
    by false e false =
        carries_then d (with_output d a loc) (succeeded_in_both (with_output d a loc) a now)
        (so (stage_at d a.stage).target refl kind (not_false _ e))
        (both_carries (with_output d a loc) a now)

completed_carries : (d : DagData) (s : ℕ) → Carries d (with_state d s completed)
completed_carries d s =
    carries_state d s completed
    (λ state. lasts_same state (completed state) refl
    (births_mapped state.attempts forgiven (λ x. refl)))

pub result_carries :
    (d : DagData) (a : AttemptId) (now : ℕ) → Carries d (after_result_success d a now)
result_carries d a now = by (is_repeat d a)
  where
    mid : DagData
    mid = with_state (succeeded_in_both d a now) a.stage (with_result a.partition)

    won : Carries d mid
    won =
        carries_then d (succeeded_in_both d a now) mid (both_carries d a now)
        (carries_state (succeeded_in_both d a now) a.stage (with_result a.partition)
        (λ state. lasts_same state (with_result a.partition state) refl refl))

    done : (b : Bool) → Carries d (if b then with_state mid a.stage completed else mid)
    done true =
        carries_then d mid (with_state mid a.stage completed) won (completed_carries mid a.stage)
    done false = won

    by : (x : Bool)
        → Carries d (if x then ended_in_own d a else completed_if mid a.stage)
    by true = ended_carries d a
    by false = done (is_complete mid a.stage)

-- ---- submissions

pub submitted_carries :
    (d after : DagData) (submitted : ℕ → Bool) → IsSubmitted d submitted after
    → Carries d after
submitted_carries d after submitted (looked, are, is) =
    subst (λ x. Carries d x) (sym is)
    (carries_states d (by_number (moved_if d looked) 0 d.states)
    (λ s. rw (by_number_at (moved_if d looked) d.states s) (by s (slice_get d.states s))))
  where
    moved : (s : ℕ) (state : StageState) (a b : Bool)
        → Lasts (Some state)
        (Some (if a then (if b then started d.tracker d.limits (stage_at d s) state
        else as_waiting state) else state))
    moved s state true true =
        lasts_more state (started d.tracker d.limits (stage_at d s) state)
        (d.tracker.epoch ∷ []) refl (births_started d.tracker d.limits (stage_at d s) state)
    moved s state true false = λ n b e. e
    moved s state false b = λ n b e. e

    by : (s : ℕ) (o : Option StageState) → Lasts o (option_map (moved_if d looked s) o)
    by s None = λ n b e. e
    by s (Some state) = moved s state (looked s) (has_inputs d s)

pub completes_carries :
    (d : DagData) (s : ℕ) (after : DagData) → CompletesMap d s after → Carries d after
completes_carries d s after is =
    carries_then d (with_state d s completed) after (completed_carries d s)
    (submitted_carries (with_state d s completed) after
    (waiting_stages (with_state d s completed)) is)

pub fails_carries :
    (d : DagData) (s number : ℕ) (verdict : Verdict) (after : DagData)
    → FailsStage d s number verdict after → Carries d after
fails_carries d s number verdict after is = by verdict is
  where
    failed : Carries d (with_state d s (with_failed number))
    failed =
        carries_state d s (with_failed number)
        (λ state. lasts_same state (with_failed number state) refl
        (births_changed state.attempts (place_of_attempt state number) failed_attempt
        (λ x. refl)))

    by : (verdict : Verdict) → FailsStage d s number verdict after → Carries d after
    by verdicts.Limit (often, same) = subst (λ x. Carries d x) (sym same) failed
    by verdicts.Again (often, same) =
        carries_then d (with_state d s (with_failed number)) after failed
        (submitted_carries (with_state d s (with_failed number)) after (λ r. r == s) same)

-- ---- losses

pub lost_carries :
    (d : DagData) (exec : ℕ) → is_live (slice_get d.tracker.trust exec) ≡ true
    → Carries d (after_lost d exec)
lost_carries d exec live =
    lost_event d (after_lost d exec) exec refl live
    (λ a b e. ap (λ o. option_map (λ set. set.born) o) (lost_set d exec a)
    ∙ mapped (set_of d a) ∙ e)
  where
    mapped : (o : Option TaskSetData)
        → option_map (λ set. set.born) (option_map (λ set. after_loss set exec) o)
        ≡ option_map (λ set. set.born) o
    mapped None = refl
    mapped (Some set) = refl
