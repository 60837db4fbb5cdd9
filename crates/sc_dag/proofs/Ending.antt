-- A set that ends with a success has all its tasks finished.
use Rattle.std.proofs.Common.{◌≡◌, ◌⊎◌, inl, inr, ℕ, ◌-◌, ◌||◌, ◌&&◌, not, Bool, true, false, cond, List, [], ◌∷◌, length, Option, Some, None, option_map, slice_get, refl, ap, sym, ◌∙◌, true≢false}
use Rattle.std.proofs.lemmas.Bool.{cases_eq}
use Rattle.sc_ids.specs.Changes.{change_at}
use Rattle.sc_ids.proofs.ChangeLemmas.{slice_get_change_same}
use Rattle.sc_taskset.specs.Lookups.{are_finished, is_finished, is_task_of, is_there_and, task_at}
use Rattle.sc_taskset.specs.TaskSetData.{TaskData, TaskSetData}
use Rattle.sc_dag.specs.DagData.{StageState, is_live_set, newest_set, set_in, with_attempts, with_set}
use Rattle.sc_dag.specs.Reports.{wants_in}
use Rattle.sc_dag.specs.Submission.{is_idle_in, waits_in}
use Rattle.sc_dag.specs.Settled.{goes_on_in}
use Rattle.sc_dag.specs.declared.attempts.StageAttempt.{StageAttempt}
use Rattle.sc_dag.proofs.Calm.{IsCalm, goes_is}
use Rattle.sc_dag.proofs.Moving.{newest_among}
use Rattle.sc_dag.proofs.SoundAttempts.{newest_changed, newest_kept}
use Rattle.sc_dag.proofs.Tests.{clash, not_false, not_true}

-- all tasks of a set that may be there are finished
abbrev pub all_done : Option TaskSetData → Bool
all_done None = false
all_done (Some set) = are_finished set.tasks

-- a stage after a success of one of its attempts
pub record SucceedsAt (o after : Option StageState) : Type 0 where
  pub waits : waits_in after ≡ waits_in o
  pub dead : is_live_set (newest_among o) ≡ false → is_live_set (newest_among after) ≡ false
  pub ends : is_live_set (newest_among o) ≡ true → is_live_set (newest_among after) ≡ false
      → all_done (newest_among after) ≡ true

pub succeeds_calm : (o after : Option StageState) → IsCalm o after → SucceedsAt o after
succeeds_calm o after calm =
    record {
      waits = calm.waits;
      dead = λ e. calm.live ∙ e;
      ends = λ live dead. absurd (clash (calm.live ∙ live) dead);
    }

-- a change of a set that ends it only where all is finished
pub record EndsWhole (g : TaskSetData → TaskSetData) : Type 0 where
  pub dead : (set : TaskSetData) → set.is_zombie ≡ true → (g set).is_zombie ≡ true
  pub ends : (set : TaskSetData) → set.is_zombie ≡ false → (g set).is_zombie ≡ true
      → are_finished (g set).tasks ≡ true

pub set_succeeds :
    (state : StageState) (i : ℕ) (g : TaskSetData → TaskSetData) → EndsWhole g
    → SucceedsAt (Some state)
    (Some (with_attempts state (change_at state.attempts i (with_set g))))
set_succeeds state i g whole =
    record {
      waits = refl;
      dead = dead (cases_eq i (length state.attempts - 1));
      ends = ends (cases_eq i (length state.attempts - 1));
    }
  where
    after : StageState
    after = with_attempts state (change_at state.attempts i (with_set g))

    at : i ≡ length state.attempts - 1
        → newest_set after
        ≡ set_in (option_map (with_set g) (slice_get state.attempts (length state.attempts - 1)))
    at e = ap set_in (newest_changed state.attempts i (with_set g) e)

    other : (i ≡ length state.attempts - 1 → ⊥) → newest_set after ≡ newest_set state
    other ne = ap set_in (newest_kept state.attempts i (with_set g) ne)

    dead_in : (o : Option StageAttempt) → is_live_set (set_in o) ≡ false
        → is_live_set (set_in (option_map (with_set g) o)) ≡ false
    dead_in None e = e
    dead_in (Some a) e = ap not (whole.dead a.set (not_false a.set.is_zombie e))

    dead : (i ≡ length state.attempts - 1) ⊎ (i ≡ length state.attempts - 1 → ⊥)
        → is_live_set (newest_set state) ≡ false → is_live_set (newest_set after) ≡ false
    dead (inl e) h = ap is_live_set (at e) ∙ dead_in _ h
    dead (inr ne) h = ap is_live_set (other ne) ∙ h

    ends_in : (o : Option StageAttempt) → is_live_set (set_in o) ≡ true
        → is_live_set (set_in (option_map (with_set g) o)) ≡ false
        → all_done (set_in (option_map (with_set g) o)) ≡ true
    ends_in None e h = absurd (true≢false (sym e))
    ends_in (Some a) e h =
        whole.ends a.set (not_true a.set.is_zombie e) (not_false (g a.set).is_zombie h)

    ends : (i ≡ length state.attempts - 1) ⊎ (i ≡ length state.attempts - 1 → ⊥)
        → is_live_set (newest_set state) ≡ true → is_live_set (newest_set after) ≡ false
        → all_done (newest_set after) ≡ true
    ends (inl e) l h = ap all_done (at e) ∙ ends_in _ l (sym (ap is_live_set (at e)) ∙ h)
    ends (inr ne) l h = absurd (clash l (sym (ap is_live_set (other ne)) ∙ h))

-- after a change of an older set
pub older_succeeds :
    (state : StageState) (i : ℕ) (g h : TaskSetData → TaskSetData)
    → (i ≡ length state.attempts - 1 → ⊥) → EndsWhole h
    → let before = change_at state.attempts i (with_set g) in
    SucceedsAt (Some state)
    (Some (with_attempts state (change_at before (length before - 1) (with_set h))))
older_succeeds state i g h older whole =
    record {
      waits = refl;
      dead = λ e. then.dead (ap is_live_set same ∙ e);
      ends = λ l e. then.ends (ap is_live_set same ∙ l) e;
    }
  where
    mid : StageState
    mid = with_attempts state (change_at state.attempts i (with_set g))

    same : newest_set mid ≡ newest_set state
    same = ap set_in (newest_kept state.attempts i (with_set g) older)

    then : SucceedsAt (Some mid) (Some (with_attempts mid
        (change_at mid.attempts (length mid.attempts - 1) (with_set h))))
    then = set_succeeds mid (length mid.attempts - 1) h whole

-- the changed stage of a job
pub succeeds_changed :
    (states : List StageState) (s : ℕ) (f : StageState → StageState)
    → ((state : StageState) → slice_get states s ≡ Some state
    → SucceedsAt (Some state) (Some (f state)))
    → SucceedsAt (slice_get states s) (slice_get (change_at states s f) s)
succeeds_changed states s f own =
    rw (slice_get_change_same states s f) (by (slice_get states s) refl)
  where
    by : (o : Option StageState) → slice_get states s ≡ o → SucceedsAt o (option_map f o)
    by None e =
        record { waits = refl; dead = λ h. h; ends = λ l h. absurd (clash l h) }
    by (Some state) e = own state e

-- a stage that went on does so, or all is finished in it and it is idle
pub goes_or_ended :
    (o after : Option StageState) → SucceedsAt o after → goes_on_in o ≡ true
    → (goes_on_in after ≡ true)
    ⊎ ((is_idle_in after ≡ true) × (all_done (newest_among after) ≡ true))
goes_or_ended o after at goes =
    by (waits_in after) refl (is_live_set (newest_among after)) refl
  where
    went : (w : Bool) → waits_in o ≡ w → w ≡ false
        → (waits_in o || is_live_set (newest_among o)) ≡ true
        → is_live_set (newest_among o) ≡ true
    went true e h g = absurd (true≢false h)
    went false e h g = rw e at g

    idle : (x : Option StageState) → waits_in x ≡ false → is_live_set (newest_among x) ≡ false
        → all_done (newest_among x) ≡ true → is_idle_in x ≡ true
    idle None w l d = absurd (true≢false (sym d))
    idle (Some state) w l d = rw (w, l) refl

    by : (w : Bool) → waits_in after ≡ w → (l : Bool) → is_live_set (newest_among after) ≡ l
        → (goes_on_in after ≡ true)
        ⊎ ((is_idle_in after ≡ true) × (all_done (newest_among after) ≡ true))
    by true e l h = inl (goes_is after ∙ rw e refl)
    by false e true h = inl (goes_is after ∙ rw (e, h) refl)
    by false e false h =
        let live = went (waits_in o) refl (sym at.waits ∙ e) (sym (goes_is o) ∙ goes) in
        let done = at.ends live h in
        inr (idle after e h done, done)

-- what is finished whole wants nothing
pub done_unwanted :
    (set : TaskSetData) (p : ℕ) → are_finished set.tasks ≡ true → wants_in (Some set) p ≡ false
done_unwanted set p e = each set.tasks e
  where
    each : (tasks : List TaskData) → are_finished tasks ≡ true
        → is_there_and (λ t. not (is_finished t)) (task_at p tasks) ≡ false
    each [] h = refl
    each (t ∷ tasks) h =
        by (is_task_of p t) (is_finished t) refl h (λ k. each tasks k)
      where
        by : (b f : Bool) → is_finished t ≡ f → (f && are_finished tasks) ≡ true
            → (are_finished tasks ≡ true
            → is_there_and (λ u. not (is_finished u)) (task_at p tasks) ≡ false)
            → is_there_and (λ u. not (is_finished u))
            (cond b (Some t) (task_at p tasks)) ≡ false
        by true true is k g = ap not is
        by true false is k g = absurd (true≢false (sym k))
        by false true is k g = g k
        by false false is k g = absurd (true≢false (sym k))
