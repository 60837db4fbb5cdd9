-- What becomes of the stage of a success, and of all others with it.
use Rattle.std.proofs.Common.{◌≡◌, ◌⊎◌, inl, inr, ℕ, ◌<◌, ◌&&◌, not, Bool, true, false, List, length, Option, Some, None, option_map, slice_get, refl, ap, sym, subst, ◌∙◌, arith, true≢false}
use Rattle.std.proofs.lemmas.Bool.{cases_eq, or_left, or_right}
use Rattle.sc_ids.specs.Changes.{change_at}
use Rattle.sc_ids.proofs.ChangeLemmas.{length_change_at, slice_get_change_other, slice_get_change_same}
use Rattle.sc_tracker.specs.TrackerData.{TrackerData}
use Rattle.sc_dag.specs.DagData.{DagData, StageState, is_live_set, newest_at, stage_at, with_state}
use Rattle.sc_dag.specs.Laws.{GoesOn}
use Rattle.sc_dag.specs.Outputs.{is_complete}
use Rattle.sc_dag.specs.Reports.{CompletesMap, completed, failed_count, forgiven, is_finished_short}
use Rattle.sc_dag.specs.Settled.{IsSettled, IsUnderWay, goes_on, goes_on_in}
use Rattle.sc_dag.specs.Submission.{IsSubmitted, is_idle_in, this_stage, waiting_stages, waits_in}
use Rattle.sc_dag.proofs.Calm.{complete_with}
use Rattle.sc_dag.proofs.Ending.{SucceedsAt, all_done, goes_or_ended}
use Rattle.sc_dag.proofs.GoingOn.{MeetsOwn, SameOthers, itself, moved, resubmitted, settled_moved}
use Rattle.sc_dag.proofs.Items.{count_none}
use Rattle.sc_dag.proofs.Moving.{after_looking, complete_after, newest_among}
use Rattle.sc_dag.proofs.Settling.{settles}
use Rattle.sc_dag.proofs.Tests.{both_left, both_right, clash, is_in, not_true}

-- ---- a stage that goes on after a success, or not

module _ (d : DagData) (states : List StageState) (u : TrackerData) (s : ℕ)
    (long : length states ≡ length d.stages) (others : SameOthers d states u s)
    (at : SucceedsAt (slice_get d.states s) (slice_get states s)) (settled : IsSettled d) where
  abbrev mid : DagData
  mid = moved d states u

  dead_still : waiting_stages mid s ≡ true → is_live_set (newest_at mid s) ≡ false
  dead_still w = at.dead (settled.dead s (sym at.waits ∙ w))

  -- it does
  pub going : is_complete mid s ≡ false → (goes_on d s ≡ true → goes_on mid s ≡ true)
      → GoesOn d mid
  going lack goes = (
    settled_moved d states u (λ q. false) s others own settled,
    λ k under open_after. keeps k under (cases_eq k s),
  )
    where
      own : MeetsOwn d mid (λ q. false) s
      own =
          record {
            dead = dead_still;
            lacking = λ w. lack;
            waits = λ w. inl (sym at.waits ∙ w);
            passes = λ k read e g. rw lack (or_left (goes_on mid s) false (goes g));
            failed = λ f. lack;
          }

      keeps : (k : ℕ) → IsUnderWay d k → (k ≡ s) ⊎ (k ≡ s → ⊥) → goes_on mid k ≡ true
      keeps k under (inl e) =
          subst (λ j. goes_on d j ≡ true → goes_on mid j ≡ true) (sym e) goes under.1
      keeps k under (inr ne) = ap goes_on_in (others.states_same k ne) ∙ under.1

  -- it is submitted again
  pub short : is_finished_short mid s ≡ true → (after : DagData)
      → IsSubmitted mid (this_stage s) after → GoesOn d after
  short e after submits =
      resubmitted d states u s after long others settled
      (settled_moved d states u (this_stage s) s others own settled) lack dead submits
    where
      lack : is_complete mid s ≡ false
      lack = not_true (is_complete mid s) (both_left (not (is_complete mid s)) _ e)

      idle_dead : (o : Option StageState) → is_idle_in o ≡ true
          → is_live_set (newest_among o) ≡ false
      idle_dead None h = refl
      idle_dead (Some state) h = not_true _ (both_right (not state.waits) _ h)

      dead : is_live_set (newest_at mid s) ≡ false
      dead = idle_dead (slice_get states s)
          (both_left (is_idle_in (slice_get states s)) _
          (both_right (not (is_complete mid s)) _ e))

      own : MeetsOwn d mid (this_stage s) s
      own =
          record {
            dead = λ w. dead;
            lacking = λ w. lack;
            waits = λ w. inr (itself s);
            passes = λ k read h g. rw (lack, itself s) (or_right (goes_on mid s) true refl);
            failed = λ f. lack;
          }

  -- it is complete: it waits no more, and no failure of it counts
  abbrev whole : DagData
  whole = with_state mid s completed

  whole_waits : waiting_stages whole s ≡ false
  whole_waits = ap waits_in (slice_get_change_same states s completed) ∙ by (slice_get states s)
    where
      by : (o : Option StageState) → waits_in (option_map completed o) ≡ false
      by None = refl
      by (Some state) = refl

  whole_failed : failed_count (slice_get whole.states s) ≡ 0
  whole_failed =
      ap failed_count (slice_get_change_same states s completed) ∙ by (slice_get states s)
    where
      by : (o : Option StageState) → failed_count (option_map completed o) ≡ 0
      by None = refl
      by (Some state) =
          count_none (λ a. a.has_failed) forgiven state.attempts (λ a. refl)

  whole_complete : (k : ℕ) → is_complete whole k ≡ is_complete mid k
  whole_complete k = complete_with mid s k completed (λ state. refl)

  pub whole_others : SameOthers d (change_at states s completed) u s
  whole_others =
      record {
        states_same = λ k ne. slice_get_change_other states s k completed ne
            ∙ others.states_same k ne;
        lacks = λ k ne e. whole_complete k ∙ others.lacks k ne e;
      }

  none_failed : 0 < failed_count (slice_get whole.states s) → ⊥
  none_failed f = omega (arith, f, whole_failed)

  -- a result stage
  pub completing : is_complete mid s ≡ true
      → ((k : ℕ) → is_in (stage_at d k).parents s ≡ true → is_complete d s ≡ false → ⊥)
      → GoesOn d whole
  completing e unread = (
    settled_moved d (change_at states s completed) u (λ q. false) s whole_others own settled,
    λ k under open_after. keeps k under open_after (cases_eq k s),
  )
    where
      own : MeetsOwn d whole (λ q. false) s
      own =
          record {
            dead = λ w. absurd (clash w whole_waits);
            lacking = λ w. absurd (clash w whole_waits);
            waits = λ w. absurd (clash w whole_waits);
            passes = λ k read lack g. absurd (unread k read lack);
            failed = λ f. absurd (none_failed f);
          }

      keeps : (k : ℕ) → IsUnderWay d k → is_complete whole k ≡ false
          → (k ≡ s) ⊎ (k ≡ s → ⊥) → goes_on whole k ≡ true
      keeps k under lack (inl same) =
          absurd (clash e (sym (whole_complete s)
          ∙ subst (λ j. is_complete whole j ≡ false) same lack))
      keeps k under lack (inr ne) =
          ap goes_on_in (whole_others.states_same k ne) ∙ under.1

  -- a map stage: all that wait are looked at
  pub map_completing : is_complete mid s ≡ true → (after : DagData)
      → CompletesMap mid s after → GoesOn d after
  map_completing e after (looked, are, is) =
      subst (λ x. GoesOn d x) (sym is)
      (done.0.0, λ k under open_after. keeps k under open_after (cases_eq k s))
    where
      other : (k : ℕ) → waiting_stages whole k ≡ true → (k ≡ s) ⊎ (k ≡ s → ⊥) → (k ≡ s → ⊥)
      other k w (inl same) =
          absurd (clash (subst (λ j. waiting_stages whole j ≡ true) same w) whole_waits)
      other k w (inr ne) = ne

      waited : (k : ℕ) → waiting_stages whole k ≡ true → waiting_stages d k ≡ true
      waited k w =
          sym (ap waits_in (whole_others.states_same k (other k w (cases_eq k s)))) ∙ w

      dead : (k : ℕ) → waiting_stages whole k ≡ true → is_live_set (newest_at whole k) ≡ false
      dead k w =
          ap (λ o. is_live_set (newest_among o))
          (whole_others.states_same k (other k w (cases_eq k s)))
          ∙ settled.dead k (waited k w)

      lacking : (k : ℕ) → waiting_stages whole k ≡ true → is_complete whole k ≡ false
      lacking k w =
          whole_others.lacks k (other k w (cases_eq k s)) (settled.lacking k (waited k w))

      failed : (k : ℕ) → (k ≡ s) ⊎ (k ≡ s → ⊥) → 0 < failed_count (slice_get whole.states k)
          → is_complete whole k ≡ false
      failed k (inl same) f =
          absurd (none_failed (subst (λ j. 0 < failed_count (slice_get whole.states j)) same f))
      failed k (inr ne) f =
          whole_others.lacks k ne
          (settled.failed k (rw (whole_others.states_same k ne) at f))

      end : DagData
      end = after_looking whole looked

      done : GoesOn whole end
          × ((k : ℕ) → waiting_stages whole k ≡ true → is_complete whole k ≡ false
          → IsUnderWay end k)
      done = settles whole (waiting_stages whole) looked
          (length_change_at states s completed ∙ long)
          (record {
            dead = dead;
            lacking = lacking;
            waits = λ k w. inl w;
            failed = λ k. failed k (cases_eq k s);
          }) dead are

      keeps : (k : ℕ) → IsUnderWay d k → is_complete end k ≡ false → (k ≡ s) ⊎ (k ≡ s → ⊥)
          → goes_on end k ≡ true
      keeps k under lack (inl same) =
          absurd (clash e (sym (complete_after whole looked s ∙ whole_complete s)
          ∙ subst (λ j. is_complete end j ≡ false) same lack))
      keeps k under lack (inr ne) =
          done.0.1 k (
            whole_others.lacks k ne under.0,
            ap goes_on_in (whole_others.states_same k ne) ∙ under.1,
          ) lack

  -- what a map success leaves
  pub map_outcome : (after : DagData)
      → (is_complete mid s ≡ true → CompletesMap mid s after → GoesOn d after)
      × (is_finished_short mid s ≡ true → IsSubmitted mid (this_stage s) after → GoesOn d after)
      × (is_complete mid s ≡ false → is_finished_short mid s ≡ false → GoesOn d mid)
  map_outcome after = (
    λ e is. map_completing e after is,
    λ e is. short e after is,
    λ lack long_still. going lack (λ g. by lack long_still
        (goes_or_ended (slice_get d.states s) (slice_get states s) at g)),
  )
    where
      by : is_complete mid s ≡ false → is_finished_short mid s ≡ false
          → (goes_on mid s ≡ true)
          ⊎ ((is_idle_in (slice_get states s) ≡ true) × (all_done (newest_at mid s) ≡ true))
          → goes_on mid s ≡ true
      by lack still (inl e) = e
      by lack still (inr (idle, done)) =
          absurd (clash (short_of (is_complete mid s) (is_idle_in (slice_get states s))
          (all_done (newest_at mid s)) lack idle done) still)
        where
          short_of : (c i a : Bool) → c ≡ false → i ≡ true → a ≡ true
              → (not c && (i && a)) ≡ true
          short_of true i a e f g = absurd (true≢false e)
          short_of false false a e f g = f
          short_of false true a e f g = g
