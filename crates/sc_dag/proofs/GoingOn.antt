-- Where one stage changed, and is submitted or not, no stage is forgotten.
use Rattle.std.proofs.Common.{◌≡◌, ◌⊎◌, inl, inr, ℕ, ◌-◌, ◌<◌, ◌||◌, not, Bool, true, false, List, length, Option, Some, None, option_map, slice_get, refl, ap, sym, subst, ◌∙◌, arith, true≢false}
use Rattle.std.specs.List.{list_any}
use Rattle.std.proofs.lemmas.Bool.{cases_eq, or_right}
use Rattle.std.proofs.lemmas.Bool.Decides.{nat_tests}
use Rattle.sc_ids.specs.Changes.{change_at}
use Rattle.sc_ids.proofs.ChangeLemmas.{length_change_at, slice_get_change_other, slice_get_change_same}
use Rattle.sc_tracker.specs.TrackerData.{TrackerData}
use Rattle.sc_dag.specs.DagData.{DagData, StageState, dag_data, is_live_set, newest_at, place_of_attempt, set_in, stage_at, with_state}
use Rattle.sc_dag.specs.Laws.{FailuresGoOn, GoesOn}
use Rattle.sc_dag.specs.Offers.{newest_number, number_in}
use Rattle.sc_dag.specs.Outputs.{is_complete}
use Rattle.sc_dag.specs.Reports.{failed_attempt, failed_count, with_failed}
use Rattle.sc_dag.specs.Settled.{IsSettled, IsSettledBy, IsUnderWay, goes_on, goes_on_in, will_go_on}
use Rattle.sc_dag.specs.Submission.{IsSubmitted, this_stage, waiting_stages, waits_in}
use Rattle.sc_dag.specs.declared.attempts.StageAttempt.{StageAttempt}
use Rattle.sc_dag.proofs.Calm.{complete_with}
use Rattle.sc_dag.proofs.Moving.{after_looking, newest_among}
use Rattle.sc_dag.proofs.Runners.{place_newest}
use Rattle.sc_dag.proofs.Settling.{settles}
use Rattle.sc_dag.proofs.SoundAttempts.{newest_changed}
use Rattle.sc_dag.proofs.Tests.{any_within, both_left, both_right, is_in, left_only, not_true}

-- another state of one stage and another tracker
abbrev pub moved : DagData → List StageState → TrackerData → DagData
moved d states u = dag_data d.stages states u d.limits

-- the other stages stay as they are, and complete nothing
pub record SameOthers (d : DagData) (states : List StageState) (u : TrackerData) (s : ℕ)
    : Type 0 where
  pub states_same : (k : ℕ) → (k ≡ s → ⊥) → slice_get states k ≡ slice_get d.states k
  pub lacks : (k : ℕ) → (k ≡ s → ⊥) → is_complete d k ≡ false
      → is_complete (moved d states u) k ≡ false

-- what the changed stage has to meet
pub record MeetsOwn (d after : DagData) (submitted : ℕ → Bool) (s : ℕ) : Type 0 where
  pub dead : waiting_stages after s ≡ true → is_live_set (newest_at after s) ≡ false
  pub lacking : waiting_stages after s ≡ true → is_complete after s ≡ false
  pub waits : waiting_stages after s ≡ true
      → (waiting_stages d s ≡ true) ⊎ (submitted s ≡ true)
  pub passes : (k : ℕ) → is_in (stage_at d k).parents s ≡ true → is_complete d s ≡ false
      → goes_on d s ≡ true → will_go_on after submitted s ≡ true
  pub failed : 0 < failed_count (slice_get after.states s) → is_complete after s ≡ false

-- then no stage is forgotten
pub settled_moved :
    (d : DagData) (states : List StageState) (u : TrackerData) (submitted : ℕ → Bool) (s : ℕ)
    → SameOthers d states u s → MeetsOwn d (moved d states u) submitted s → IsSettled d
    → IsSettledBy (moved d states u) submitted
settled_moved d states u submitted s others own settled =
    record {
      dead = λ k. dead k (cases_eq k s);
      lacking = λ k. lacking k (cases_eq k s);
      waits = λ k. waits k (cases_eq k s);
      failed = λ k. failed k (cases_eq k s);
    }
  where
    after : DagData
    after = moved d states u

    waited : (k : ℕ) → (k ≡ s → ⊥) → waiting_stages after k ≡ true → waiting_stages d k ≡ true
    waited k ne w = sym (ap waits_in (others.states_same k ne)) ∙ w

    dead : (k : ℕ) → (k ≡ s) ⊎ (k ≡ s → ⊥) → waiting_stages after k ≡ true
        → is_live_set (newest_at after k) ≡ false
    dead k (inl e) =
        subst (λ j. waiting_stages after j ≡ true → is_live_set (newest_at after j) ≡ false)
        (sym e) own.dead
    dead k (inr ne) = λ w.
        ap (λ o. is_live_set (newest_among o)) (others.states_same k ne)
        ∙ settled.dead k (waited k ne w)

    lacking : (k : ℕ) → (k ≡ s) ⊎ (k ≡ s → ⊥) → waiting_stages after k ≡ true
        → is_complete after k ≡ false
    lacking k (inl e) =
        subst (λ j. waiting_stages after j ≡ true → is_complete after j ≡ false) (sym e)
        own.lacking
    lacking k (inr ne) = λ w. others.lacks k ne (settled.lacking k (waited k ne w))

    will : (k p : ℕ) → is_in (stage_at d k).parents p ≡ true
        → will_go_on d (λ q. false) p ≡ true → will_go_on after submitted p ≡ true
    will k p read e = by (cases_eq p s)
      where
        lack : is_complete d p ≡ false
        lack = not_true (is_complete d p) (both_left (not (is_complete d p)) _ e)

        goes : goes_on d p ≡ true
        goes = left_only (goes_on d p) (both_right (not (is_complete d p)) (goes_on d p || false) e)

        by : (p ≡ s) ⊎ (p ≡ s → ⊥) → will_go_on after submitted p ≡ true
        by (inl is) =
            let P : ℕ → Type 0 = λ q. is_in (stage_at d k).parents q ≡ true
            → is_complete d q ≡ false → goes_on d q ≡ true
            → will_go_on after submitted q ≡ true in
            subst P (sym is) (own.passes k) read lack goes
        by (inr ne) =
            rw (others.lacks p ne lack, ap goes_on_in (others.states_same p ne), goes) refl

    had : (k : ℕ)
        → (false ≡ true) ⊎ (list_any (will_go_on d (λ q. false)) (stage_at d k).parents ≡ true)
        → (submitted k ≡ true)
        ⊎ (list_any (will_go_on after submitted) (stage_at d k).parents ≡ true)
    had k (inl e) = absurd (true≢false (sym e))
    had k (inr some) =
        inr (any_within (will_go_on d (λ q. false)) (will_go_on after submitted)
        (stage_at d k).parents (will k) some)

    own_waits : (waiting_stages d s ≡ true) ⊎ (submitted s ≡ true)
        → (submitted s ≡ true)
        ⊎ (list_any (will_go_on after submitted) (stage_at d s).parents ≡ true)
    own_waits (inl w) = had s (settled.waits s w)
    own_waits (inr e) = inl e

    waits : (k : ℕ) → (k ≡ s) ⊎ (k ≡ s → ⊥) → waiting_stages after k ≡ true
        → (submitted k ≡ true)
        ⊎ (list_any (will_go_on after submitted) (stage_at d k).parents ≡ true)
    waits k (inl e) =
        subst (λ j. waiting_stages after j ≡ true
        → (submitted j ≡ true)
        ⊎ (list_any (will_go_on after submitted) (stage_at d j).parents ≡ true)) (sym e)
        (λ w. own_waits (own.waits w))
    waits k (inr ne) = λ w. had k (settled.waits k (waited k ne w))

    failed : (k : ℕ) → (k ≡ s) ⊎ (k ≡ s → ⊥) → 0 < failed_count (slice_get states k)
        → is_complete after k ≡ false
    failed k (inl e) =
        subst (λ j. 0 < failed_count (slice_get states j) → is_complete after j ≡ false) (sym e)
        own.failed
    failed k (inr ne) = λ f.
        others.lacks k ne (settled.failed k (rw (others.states_same k ne) at f))

-- a stage is itself
pub itself : (s : ℕ) → this_stage s s ≡ true
itself s = grind (arith, nat_tests)

-- the changed stage is submitted again
pub resubmitted :
    (d : DagData) (states : List StageState) (u : TrackerData) (s : ℕ) (after : DagData)
    → length states ≡ length d.stages → SameOthers d states u s → IsSettled d
    → IsSettledBy (moved d states u) (this_stage s)
    → is_complete (moved d states u) s ≡ false
    → is_live_set (newest_at (moved d states u) s) ≡ false
    → IsSubmitted (moved d states u) (this_stage s) after → GoesOn d after
resubmitted d states u s after long others settled by_s lack dead (looked, are, is) =
    subst (λ x. GoesOn d x) (sym is)
    (done.0.0, λ k under open_after. keeps k under open_after (cases_eq k s))
  where
    mid : DagData
    mid = moved d states u

    only : (k : ℕ) → this_stage s k ≡ true → is_live_set (newest_at mid k) ≡ false
    only k e =
        let same : k ≡ s = grind (arith, nat_tests, e) in
        subst (λ j. is_live_set (newest_at mid j) ≡ false) (sym same) dead

    end : DagData
    end = after_looking mid looked

    done : GoesOn mid end
        × ((k : ℕ) → this_stage s k ≡ true → is_complete mid k ≡ false → IsUnderWay end k)
    done = settles mid (this_stage s) looked long by_s only are

    keeps : (k : ℕ) → IsUnderWay d k → is_complete end k ≡ false → (k ≡ s) ⊎ (k ≡ s → ⊥)
        → goes_on end k ≡ true
    keeps k under open_after (inl e) =
        subst (λ j. goes_on end j ≡ true) (sym e) ((done.1 s (itself s) lack).1)
    keeps k under open_after (inr ne) =
        done.0.1 k (
          others.lacks k ne under.0,
          ap goes_on_in (others.states_same k ne) ∙ under.1,
        ) open_after

-- ---- a stage attempt failed

-- its newest set hands out nothing more
failed_dead :
    (d : DagData) (s : ℕ)
    → is_live_set (newest_at (with_state d s (with_failed (newest_number d s))) s) ≡ false
failed_dead d s =
    ap (λ o. is_live_set (newest_among o))
    (slice_get_change_same d.states s (with_failed (newest_number d s)))
    ∙ by (slice_get d.states s) refl
  where
    none : (o : Option StageAttempt)
        → is_live_set (set_in (option_map failed_attempt o)) ≡ false
    none None = refl
    none (Some a) = refl

    by : (o : Option StageState) → slice_get d.states s ≡ o
        → is_live_set (newest_among (option_map (with_failed (newest_number d s)) o)) ≡ false
    by None e = refl
    by (Some state) e =
        ap (λ o. is_live_set (set_in o))
        (newest_changed state.attempts (place_of_attempt state (newest_number d s))
        failed_attempt (place_newest state (newest_number d s) (ap number_in e)))
        ∙ none (slice_get state.attempts (length state.attempts - 1))

-- one stage changed alone
pub others_with :
    (d : DagData) (s : ℕ) (f : StageState → StageState)
    → ((state : StageState) → (f state).results ≡ state.results)
    → SameOthers d (change_at d.states s f) d.tracker s
others_with d s f same =
    record {
      states_same = λ k ne. slice_get_change_other d.states s k f ne;
      lacks = λ k ne e. complete_with d s k f same ∙ e;
    }

pub failures_go_on : FailuresGoOn
failures_go_on d s after sound settled lack (few, submits) =
    resubmitted d (change_at d.states s fails) d.tracker s after
    (length_change_at d.states s fails ∙ sound.states) others settled
    (settled_moved d (change_at d.states s fails) d.tracker (this_stage s) s others own settled)
    lack_after dead submits
  where
    fails : StageState → StageState
    fails = with_failed (newest_number d s)

    mid : DagData
    mid = with_state d s fails

    others : SameOthers d (change_at d.states s fails) d.tracker s
    others = others_with d s fails (λ state. refl)

    lack_after : is_complete mid s ≡ false
    lack_after = complete_with d s s fails (λ state. refl) ∙ lack

    dead : is_live_set (newest_at mid s) ≡ false
    dead = failed_dead d s

    own : MeetsOwn d mid (this_stage s) s
    own =
        record {
          dead = λ w. dead;
          lacking = λ w. lack_after;
          waits = λ w. inr (itself s);
          passes = λ k read e goes. rw (lack_after, itself s) (or_right (goes_on mid s) true refl);
          failed = λ f. lack_after;
        }
