-- Changes that end no task set forget no stage.
use Rattle.std.proofs.Common.{◌≡◌, ◌⊎◌, inl, inr, ℕ, ◌-◌, ◌||◌, not, true, false, List, length, Option, Some, None, option_map, slice_get, refl, ap, sym, subst, ◌∙◌}
use Rattle.std.specs.List.{list_any}
use Rattle.std.proofs.lemmas.Bool.{cases_eq}
use Rattle.sc_ids.specs.Changes.{change_at}
use Rattle.sc_ids.proofs.ChangeLemmas.{slice_get_change_other, slice_get_change_same}
use Rattle.sc_taskset.specs.TaskSetData.{TaskSetData}
use Rattle.sc_tracker.specs.TrackerData.{TrackerData}
use Rattle.sc_dag.specs.DagData.{DagData, StageState, dag_data, is_live_set, newest_set, set_in, stage_at, with_attempts, with_set, with_state}
use Rattle.sc_dag.specs.Laws.{GoesOn}
use Rattle.sc_dag.specs.Outputs.{is_complete, is_complete_by, results_in}
use Rattle.sc_dag.specs.Reports.{failed_count}
use Rattle.sc_dag.specs.Settled.{IsSettled, goes_on, goes_on_in, will_go_on}
use Rattle.sc_dag.specs.Submission.{waits_in}
use Rattle.sc_dag.specs.declared.attempts.StageAttempt.{StageAttempt}
use Rattle.sc_dag.proofs.Items.{count_changed}
use Rattle.sc_dag.proofs.Moving.{newest_among}
use Rattle.sc_dag.proofs.SoundAttempts.{newest_changed, newest_kept}
use Rattle.sc_dag.proofs.Tests.{any_mono, both_left, both_right, not_true}

-- ---- a calm change

-- a stage that waits, hands out and counts failures as before
pub record IsCalm (o after : Option StageState) : Type 0 where
  pub waits : waits_in after ≡ waits_in o
  pub live : is_live_set (newest_among after) ≡ is_live_set (newest_among o)
  pub failed : failed_count after ≡ failed_count o

pub calm_same : (o : Option StageState) → IsCalm o o
calm_same o = record { waits = refl; live = refl; failed = refl }

-- a stage goes on where it waits or hands out
pub goes_is : (o : Option StageState)
    → goes_on_in o ≡ (waits_in o || is_live_set (newest_among o))
goes_is None = refl
goes_is (Some state) = refl

pub calm_goes : (o after : Option StageState) → IsCalm o after → goes_on_in after ≡ goes_on_in o
calm_goes o after calm =
    goes_is after ∙ ap (λ w. w || is_live_set (newest_among after)) calm.waits
    ∙ ap (λ l. waits_in o || l) calm.live ∙ sym (goes_is o)

-- stages that change calmly, and complete nothing
pub calm_goes_on :
    (d : DagData) (states : List StageState) (u : TrackerData)
    → ((s : ℕ) → IsCalm (slice_get d.states s) (slice_get states s))
    → ((s : ℕ) → is_complete d s ≡ false
    → is_complete (dag_data d.stages states u d.limits) s ≡ false)
    → IsSettled d → GoesOn d (dag_data d.stages states u d.limits)
calm_goes_on d states u calm lacks settled = (
  record {
    dead = λ s w. (calm s).live ∙ settled.dead s (sym (calm s).waits ∙ w);
    lacking = λ s w. lacks s (settled.lacking s (sym (calm s).waits ∙ w));
    waits = λ s w. waits s (settled.waits s (sym (calm s).waits ∙ w));
    failed = λ s f. lacks s (settled.failed s (rw ((calm s).failed) at f));
  },
  λ s under lack. calm_goes (slice_get d.states s) (slice_get states s) (calm s) ∙ under.1,
)
  where
    after : DagData
    after = dag_data d.stages states u d.limits

    one : (p : ℕ) → will_go_on d (λ q. false) p ≡ true
        → will_go_on after (λ q. false) p ≡ true
    one p e =
        rw (
          lacks p (not_true (is_complete d p) (both_left (not (is_complete d p)) _ e)),
          calm_goes (slice_get d.states p) (slice_get states p) (calm p),
        )
        (both_right (not (is_complete d p)) (goes_on d p || false) e)

    waits : (s : ℕ)
        → (false ≡ true) ⊎ (list_any (will_go_on d (λ q. false)) (stage_at d s).parents ≡ true)
        → (false ≡ true)
        ⊎ (list_any (will_go_on after (λ q. false)) (stage_at d s).parents ≡ true)
    waits s (inl e) = inl e
    waits s (inr some) =
        inr (any_mono (will_go_on d (λ q. false)) (will_go_on after (λ q. false))
        (stage_at d s).parents one some)

-- ---- one stage changed

-- no result is lost or won
pub results_with :
    (states : List StageState) (s k : ℕ) (f : StageState → StageState)
    → ((state : StageState) → (f state).results ≡ state.results)
    → results_in (slice_get (change_at states s f) k) ≡ results_in (slice_get states k)
results_with states s k f same = by (cases_eq k s)
  where
    mapped : (o : Option StageState) → results_in (option_map f o) ≡ results_in o
    mapped None = refl
    mapped (Some state) = same state

    here : results_in (slice_get (change_at states s f) s) ≡ results_in (slice_get states s)
    here = ap results_in (slice_get_change_same states s f) ∙ mapped (slice_get states s)

    by : (k ≡ s) ⊎ (k ≡ s → ⊥)
        → results_in (slice_get (change_at states s f) k) ≡ results_in (slice_get states k)
    by (inl e) =
        subst (λ j. results_in (slice_get (change_at states s f) j)
        ≡ results_in (slice_get states j)) (sym e) here
    by (inr ne) = ap results_in (slice_get_change_other states s k f ne)

pub complete_with :
    (d : DagData) (s k : ℕ) (f : StageState → StageState)
    → ((state : StageState) → (f state).results ≡ state.results)
    → is_complete (with_state d s f) k ≡ is_complete d k
complete_with d s k f same =
    ap (is_complete_by d.tracker (stage_at d k)) (results_with d.states s k f same)

-- where its change is calm
pub with_goes_on :
    (d : DagData) (s : ℕ) (f : StageState → StageState)
    → ((state : StageState) → (f state).results ≡ state.results)
    → ((state : StageState) → IsCalm (Some state) (Some (f state)))
    → IsSettled d → GoesOn d (with_state d s f)
with_goes_on d s f same calm settled =
    calm_goes_on d (change_at d.states s f) d.tracker (λ k. by k (cases_eq k s))
    (λ k e. complete_with d s k f same ∙ e) settled
  where
    mapped : (o : Option StageState) → IsCalm o (option_map f o)
    mapped None = calm_same None
    mapped (Some state) = calm state

    here : IsCalm (slice_get d.states s) (slice_get (change_at d.states s f) s)
    here = rw (slice_get_change_same d.states s f) (mapped (slice_get d.states s))

    by : (k : ℕ) → (k ≡ s) ⊎ (k ≡ s → ⊥)
        → IsCalm (slice_get d.states k) (slice_get (change_at d.states s f) k)
    by k (inl e) =
        subst (λ j. IsCalm (slice_get d.states j) (slice_get (change_at d.states s f) j)) (sym e)
        here
    by k (inr ne) =
        rw (slice_get_change_other d.states s k f ne) (calm_same (slice_get d.states k))

-- a change of a set that doesn't end it
pub calm_set :
    (state : StageState) (i : ℕ) (g : TaskSetData → TaskSetData)
    → ((set : TaskSetData) → (g set).is_zombie ≡ set.is_zombie)
    → IsCalm (Some state) (Some (with_attempts state (change_at state.attempts i (with_set g))))
calm_set state i g same =
    record {
      waits = refl;
      live = by (cases_eq i (length state.attempts - 1));
      failed = count_changed (λ a. a.has_failed) state.attempts i (with_set g) (λ a. refl);
    }
  where
    mapped : (o : Option StageAttempt)
        → is_live_set (set_in (option_map (with_set g) o)) ≡ is_live_set (set_in o)
    mapped None = refl
    mapped (Some a) = ap not (same a.set)

    by : (i ≡ length state.attempts - 1) ⊎ (i ≡ length state.attempts - 1 → ⊥)
        → is_live_set (newest_set (with_attempts state (change_at state.attempts i (with_set g))))
        ≡ is_live_set (newest_set state)
    by (inl e) =
        ap (λ o. is_live_set (set_in o)) (newest_changed state.attempts i (with_set g) e)
        ∙ mapped (slice_get state.attempts (length state.attempts - 1))
    by (inr ne) =
        ap (λ o. is_live_set (set_in o)) (newest_kept state.attempts i (with_set g) ne)
