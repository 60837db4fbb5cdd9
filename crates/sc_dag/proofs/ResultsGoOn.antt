-- Successes of result tasks forget no stage.
use Rattle.std.proofs.Common.{◌≡◌, ◌≢◌, ◌⊎◌, inl, inr, ℕ, zero, suc, ◌+◌, ◌<◌, Bool, true, false, if◌then◌else◌, List, length, Option, Some, None, slice_get, refl, ap, sym, subst, ◌∙◌, arith, rules, true≢false}
use Rattle.std.specs.List.{list_all}
use Rattle.sc_base.specs.Lists.{numbers_below, numbers_from}
use Rattle.sc_ids.specs.Changes.{change_at}
use Rattle.sc_ids.proofs.ChangeLemmas.{length_change_at, slice_get_change_other}
use Rattle.sc_taskset.specs.Reports.{after_success}
use Rattle.sc_taskset.specs.TaskSetData.{TaskSetData}
use Rattle.sc_dag.specs.DagData.{DagData, StageState, newest_at, place_of_attempt, stage_at, with_state}
use Rattle.sc_dag.specs.Laws.{GoesOn, ResultSuccessesGoOn}
use Rattle.sc_dag.specs.Outputs.{is_complete, is_complete_by, is_done_by, results_in}
use Rattle.sc_dag.specs.Reports.{completed, completed_if, ended_in_own, is_of_newest, is_repeat, succeeded_in_both, succeeded_in_own, wants_in, with_result}
use Rattle.sc_dag.specs.Settled.{goes_on}
use Rattle.sc_dag.specs.Sound.{IsSoundDag}
use Rattle.sc_dag.specs.Submission.{is_idle_in, is_map}
use Rattle.sc_dag.proofs.CalmCalls.{ended_goes_on}
use Rattle.sc_dag.proofs.Ending.{SucceedsAt, all_done, done_unwanted, goes_or_ended, older_succeeds, set_succeeds, succeeds_changed}
use Rattle.sc_dag.proofs.GoingOn.{SameOthers, moved}
use Rattle.sc_dag.proofs.Items.{change_twice}
use Rattle.sc_dag.proofs.MapsGoOn.{newest_too, own_set, success_whole}
use Rattle.sc_dag.proofs.Outcomes.{completing, going}
use Rattle.sc_dag.proofs.Runners.{older_place}
use Rattle.sc_dag.proofs.SoundResults.{with_result_sound}
use Rattle.sc_dag.proofs.Tests.{all_in, clash, is_in, not_false}

-- all that passes below a bound
all_from : (p : ℕ → Bool) (bound : ℕ) → ((k : ℕ) → k < bound → p k ≡ true)
    → list_all p (numbers_below bound) ≡ true
all_from p bound h = each 0 bound (λ k lt. h k (omega (arith, lt)))
  where
    each : (first count : ℕ) → ((k : ℕ) → k < first + count → p k ≡ true)
        → list_all p (numbers_from first count) ≡ true
    each first zero g = refl
    each first (suc count) g =
        rw (g first (omega arith)) (each (suc first) count (λ k lt. g k (omega (arith, lt))))

-- a stage without tasks is complete
complete_empty : (d : DagData) (s : ℕ) → (stage_at d s).tasks ≡ 0 → is_complete d s ≡ true
complete_empty d s e =
    ap (λ n. list_all (is_done_by d.tracker (stage_at d s).target
    (results_in (slice_get d.states s))) (numbers_below n)) e

-- nothing reads outputs of a result stage that has something to do
unread : (d : DagData) (s k : ℕ) → IsSoundDag d → is_map (stage_at d s).target ≡ false
    → is_in (stage_at d k).parents s ≡ true → is_complete d s ≡ false → ⊥
unread d s k sound kind read lack =
    by (all_in (λ parent. (is_map (stage_at d parent).target ≡ true)
    ⊎ ((stage_at d parent).tasks ≡ 0)) (stage_at d k).parents s (sound.stages.read k) read)
  where
    by : (is_map (stage_at d s).target ≡ true) ⊎ ((stage_at d s).tasks ≡ 0) → ⊥
    by (inl e) = clash e kind
    by (inr e) = clash (complete_empty d s e) lack

-- a result stage whose newest set is finished whole is complete
result_whole : (d : DagData) (s : ℕ) → IsSoundDag d → is_map (stage_at d s).target ≡ false
    → all_done (newest_at d s) ≡ true → is_complete d s ≡ true
result_whole d s sound kind done =
    all_from (is_done_by d.tracker (stage_at d s).target (results_in (slice_get d.states s)))
    (stage_at d s).tasks (λ p lt. sound.covered s p kind lt (there (newest_at d s) done)
    (unwanted (newest_at d s) p done))
  where
    there : (o : Option TaskSetData) → all_done o ≡ true → o ≢ None
    there None e = absurd (true≢false (sym e))
    there (Some set) e = λ h. absurd (search (rules, h))

    unwanted : (o : Option TaskSetData) (p : ℕ) → all_done o ≡ true → wants_in o p ≡ false
    unwanted None p e = refl
    unwanted (Some set) p e = done_unwanted set p e

pub result_successes_go_on : ResultSuccessesGoOn
result_successes_go_on d a exec now sound settled kind runs = by (is_repeat d a) refl
  where
    s : ℕ
    s = a.stage

    with_it : StageState → StageState
    with_it = with_result a.partition

    -- its stage changed alone
    concluded : (f : StageState → StageState)
        → SucceedsAt (slice_get d.states s) (slice_get (change_at d.states s f) s)
        → IsSoundDag (with_state d s f) → GoesOn d (completed_if (with_state d s f) s)
    concluded f at after_sound = end (is_complete (with_state d s f) s) refl
      where
        states : List StageState
        states = change_at d.states s f

        long : length states ≡ length d.stages
        long = length_change_at d.states s f ∙ sound.states

        others : SameOthers d states d.tracker s
        others =
            record {
              states_same = λ k ne. slice_get_change_other d.states s k f ne;
              lacks = λ k ne e.
                  ap (λ o. is_complete_by d.tracker (stage_at d k) (results_in o))
                  (slice_get_change_other d.states s k f ne) ∙ e;
            }

        goes : is_complete (with_state d s f) s ≡ false
            → (goes_on (with_state d s f) s ≡ true)
            ⊎ ((is_idle_in (slice_get states s) ≡ true)
            × (all_done (newest_at (with_state d s f) s) ≡ true))
            → goes_on (with_state d s f) s ≡ true
        goes lack (inl e) = e
        goes lack (inr (idle, done)) =
            absurd (clash (result_whole (with_state d s f) s after_sound kind done) lack)

        end : (b : Bool) → is_complete (with_state d s f) s ≡ b
            → GoesOn d (if b then with_state (with_state d s f) s completed
            else with_state d s f)
        end true e =
            completing d states d.tracker s long others at settled e
            (λ k read lack. unread d s k sound kind read lack)
        end false lack =
            going d states d.tracker s long others at settled lack
            (λ g. goes lack (goes_or_ended (slice_get d.states s) (slice_get states s) at g))

    -- a result more changes nothing of what the stage does
    plus : (o : Option StageState) (state : StageState) → SucceedsAt o (Some state)
        → SucceedsAt o (Some (with_it state))
    plus o state at = record { waits = at.waits; dead = at.dead; ends = at.ends }

    told : (b : Bool) → is_of_newest d a ≡ b
        → wants_in (newest_at d s) a.partition ≡ true
        → let mid = if b then succeeded_in_own d a now
        else with_state (succeeded_in_own d a now) s (newest_too a now) in
        IsSoundDag (with_state mid s with_it) → GoesOn d (completed_if (with_state mid s with_it) s)
    told true e w after_sound =
        let same = change_twice d.states s (own_set a now) with_it in
        subst (λ states. GoesOn d (completed_if (moved d states d.tracker) s)) (sym same)
        (concluded (λ state. with_it (own_set a now state))
        (succeeds_changed d.states s (λ state. with_it (own_set a now state))
        (λ state at. plus (Some state) (own_set a now state)
        (set_succeeds state (place_of_attempt state a.stage_attempt)
        (λ set. after_success set a.partition (Some a.nth) now)
        (success_whole a.partition (Some a.nth) now))))
        (subst (λ states. IsSoundDag (moved d states d.tracker)) same after_sound))
    told false e w after_sound =
        let same = ap (λ states. change_at states s with_it)
        (change_twice d.states s (own_set a now) (newest_too a now))
        ∙ change_twice d.states s (λ state. newest_too a now (own_set a now state)) with_it in
        subst (λ states. GoesOn d (completed_if (moved d states d.tracker) s)) (sym same)
        (concluded (λ state. with_it (newest_too a now (own_set a now state)))
        (succeeds_changed d.states s (λ state. with_it (newest_too a now (own_set a now state)))
        (λ state at. plus (Some state) (newest_too a now (own_set a now state))
        (older_succeeds state (place_of_attempt state a.stage_attempt)
        (λ set. after_success set a.partition (Some a.nth) now)
        (λ set. after_success set a.partition None now)
        (older_place d a exec now sound runs w state at e)
        (success_whole a.partition None now))))
        (subst (λ states. IsSoundDag (moved d states d.tracker)) same after_sound))

    by : (b : Bool) → is_repeat d a ≡ b
        → GoesOn d (if b then ended_in_own d a
        else completed_if (with_state (succeeded_in_both d a now) s with_it) s)
    by true e = ended_goes_on d a settled
    by false e =
        let w : wants_in (newest_at d s) a.partition ≡ true = not_false _ e in
        told (is_of_newest d a) refl w (with_result_sound d a exec now sound runs w kind)
