-- What calls keep of attempts that failed or were given up.
use Rattle.std.proofs.Common.{◌≡◌, ◌⊎◌, inl, inr, ℕ, ◌-◌, ◌<◌, ◌||◌, not, Bool, true, false, List, [], ◌∷◌, All, AllPairs, get_or, length, map, Option, Some, None, IfSome, option_map, slice_get, if◌then◌else◌, refl, sym, subst, arith, true≢false}
use Rattle.std.proofs.lemmas.Bool.{cases_eq}
use Rattle.std.proofs.lemmas.List.Elements.{All-map, All-push}
use Rattle.std.proofs.lemmas.List.Kept.{AllPairs-cons}
use Rattle.std.proofs.lemmas.List.Quantifiers.{all_pairs_push}
use Rattle.sc_ids.specs.Changes.{change_at}
use Rattle.sc_ids.specs.Graphs.{StageData}
use Rattle.sc_ids.specs.declared.failures.FailureCause.{FailureCause}
use Rattle.sc_ids.specs.declared.limits.Limits.{Limits}
use Rattle.sc_taskset.specs.Lookups.{are_finished, change_first, is_finished, is_task_of, with_task}
use Rattle.sc_taskset.specs.Offers.{handed, handed_task}
use Rattle.sc_taskset.specs.Reports.{after_end, after_failure, after_held, after_success, as_zombie, ended_task, failed_task, held_task, is_counted_in, is_failure, noted_task, succeeded_task}
use Rattle.sc_taskset.specs.TaskSetData.{TaskData, TaskSetData, with_tasks}
use Rattle.sc_tracker.specs.TrackerData.{TrackerData}
use Rattle.sc_dag.specs.Births.{AreCharged, is_given_up}
use Rattle.sc_dag.specs.DagData.{StageState, changed_newest, changed_set, place_of_attempt, stage_attempt, with_set}
use Rattle.sc_dag.specs.Reports.{failed_attempt, forgiven, with_failed}
use Rattle.sc_dag.specs.Submission.{new_set, started}
use Rattle.sc_dag.specs.declared.attempts.StageAttempt.{StageAttempt}
use Rattle.sc_dag.proofs.Charges.{IsBefore, IsGivenUp, IsPast, pairs_changed, pairs_last}
use Rattle.sc_dag.proofs.Items.{all_changed, last_is}
use Rattle.sc_dag.proofs.SoundAttempts.{newest_changed, newest_kept}
use Rattle.sc_dag.proofs.Tests.{both_left, both_right, clash, left_only, not_true}
use Rattle.sc_ids.specs.declared.attempts.AttemptId.{AttemptId}

-- ---- task sets

-- a change of a task set gives nothing up
pub record Spares (set after : TaskSetData) : Type 0 where
  pub born : after.born ≡ set.born
  pub given_up : is_given_up after ≡ true → is_given_up set ≡ true

-- a change of tasks that leaves what is finished so
abbrev pub KeepsFinished : (TaskData → TaskData) → Type 0
KeepsFinished f = (t : TaskData) → is_finished t ≡ true → is_finished (f t) ≡ true

finished_still :
    (test : TaskData → Bool) (f : TaskData → TaskData) → KeepsFinished f
    → (tasks : List TaskData) → are_finished tasks ≡ true
    → are_finished (change_first test f tasks) ≡ true
finished_still test f keeps [] e = e
finished_still test f keeps (t ∷ tasks) e =
    by (test t) (both_left (is_finished t) (are_finished tasks) e)
    (both_right (is_finished t) (are_finished tasks) e)
    (λ rest. finished_still test f keeps tasks rest)
  where
    by : (b : Bool) → is_finished t ≡ true → are_finished tasks ≡ true
        → (are_finished tasks ≡ true → are_finished (change_first test f tasks) ≡ true)
        → are_finished (if b then f t ∷ tasks else t ∷ change_first test f tasks) ≡ true
    by true one rest again = rw (keeps t one) rest
    by false one rest again = rw one (again rest)

-- a set that is given up was, where its tasks are finished that were
spared :
    (set : TaskSetData) (tasks : List TaskData)
    → (are_finished set.tasks ≡ true → are_finished tasks ≡ true)
    → set.is_zombie ≡ true → are_finished tasks ≡ false → is_given_up set ≡ true
spared set tasks still zombie unfinished = by (are_finished set.tasks) refl
  where
    by : (b : Bool) → are_finished set.tasks ≡ b → is_given_up set ≡ true
    by true e = absurd (clash (still e) unfinished)
    by false e = rw (zombie, e) refl

spares_task :
    (set : TaskSetData) (p : ℕ) (f : TaskData → TaskData) → KeepsFinished f
    → Spares set (with_tasks set (with_task p f set.tasks))
spares_task set p f keeps =
    record {
      born = refl;
      given_up = λ e. spared set (with_task p f set.tasks)
          (finished_still (is_task_of p) f keeps set.tasks) (both_left set.is_zombie _ e)
          (not_true (are_finished (with_task p f set.tasks)) (both_right set.is_zombie _ e));
    }

pub spares_handed : (p exec now : ℕ) (set : TaskSetData) → Spares set (handed set p exec now)
spares_handed p exec now set = spares_task set p (handed_task exec now) (λ t e. e)

pub spares_end : (p nth : ℕ) (set : TaskSetData) → Spares set (after_end set p nth)
spares_end p nth set = spares_task set p (ended_task nth) (λ t e. e)

pub spares_failure :
    (p nth : ℕ) (cause : FailureCause) (set : TaskSetData)
    → Spares set (after_failure set p nth cause)
spares_failure p nth cause set =
    spares_task set p (failed_task (is_counted_in set cause) nth)
    (λ t e. by t (is_failure (is_counted_in set cause) nth t) e)
  where
    by : (t : TaskData) (b : Bool) → is_finished t ≡ true
        → is_finished (if b then noted_task nth (ended_task nth t) else ended_task nth t) ≡ true
    by t true e = e
    by t false e = e

pub spares_hold : (p : ℕ) (denied : Bool) (set : TaskSetData) → Spares set (after_held set p denied)
spares_hold p denied set = spares_task set p (held_task denied) (λ t e. e)

pub spares_success :
    (p : ℕ) (nth : Option ℕ) (now : ℕ) (set : TaskSetData)
    → Spares set (after_success set p nth now)
spares_success p nth now set =
    record {
      born = refl;
      given_up = λ e. by (both_right (after_success set p nth now).is_zombie _ e)
          (both_left _ _ e);
    }
  where
    tasks : List TaskData
    tasks = with_task p (succeeded_task nth) set.tasks

    still : KeepsFinished (succeeded_task nth)
    still t e = rw e e

    by : not (are_finished tasks) ≡ true → (set.is_zombie || are_finished tasks) ≡ true
        → is_given_up set ≡ true
    by unfinished dead =
        let left : are_finished tasks ≡ false = not_true (are_finished tasks) unfinished in
        spared set tasks (finished_still (is_task_of p) (succeeded_task nth) still set.tasks)
        (left_only set.is_zombie (rw left at dead)) left

-- ---- attempts

-- a change of an attempt neither fails it nor gives it up
pub record KeepsCharge (a after : StageAttempt) : Type 0 where
  pub born : after.set.born ≡ a.set.born
  pub failed : after.has_failed ≡ true → a.has_failed ≡ true
  pub given_up : is_given_up after.set ≡ true → is_given_up a.set ≡ true

keeps_charge :
    (g : TaskSetData → TaskSetData) → ((set : TaskSetData) → Spares set (g set))
    → (a : StageAttempt) → KeepsCharge a (with_set g a)
keeps_charge g spares a =
    record {
      born = (spares a.set).born;
      failed = λ e. e;
      given_up = (spares a.set).given_up;
    }

module _ (epoch : ℕ) where
  charged_changed :
      (attempts : List StageAttempt) (i : ℕ) (f : StageAttempt → StageAttempt)
      → ((a : StageAttempt) → KeepsCharge a (f a)) → AreCharged epoch attempts
      → AreCharged epoch (change_at attempts i f)
  charged_changed attempts i f keeps are =
      record {
        past = all_changed (IsPast epoch) attempts i f
            (λ a at h e. subst (λ n. n < epoch) (sym (keeps a).born) (h ((keeps a).failed e)))
            are.past;
        rising = pairs_changed IsBefore attempts i f
            (λ a b h e. subst (λ n. n < b.set.born) (sym (keeps a).born)
            (h ((keeps a).failed e)))
            (λ a b h e. subst (λ n. a.set.born < n) (sym (keeps b).born) (h e)) are.rising;
        given_up = by (cases_eq i (length attempts - 1));
      }
    where
      mapped : (o : Option StageAttempt) → IfSome o (IsGivenUp epoch)
          → IfSome (option_map f o) (IsGivenUp epoch)
      mapped None h = tt
      mapped (Some a) h =
          λ e. subst (λ n. n < epoch) (sym (keeps a).born) (h ((keeps a).given_up e))

      by : (i ≡ length attempts - 1) ⊎ (i ≡ length attempts - 1 → ⊥)
          → IfSome (slice_get (change_at attempts i f) (length (change_at attempts i f) - 1))
          (IsGivenUp epoch)
      by (inl e) =
          rw (newest_changed attempts i f e)
          (mapped (slice_get attempts (length attempts - 1)) are.given_up)
      by (inr ne) = rw (newest_kept attempts i f ne) are.given_up

  -- one set of a stage changed
  pub charged_own :
      (number : ℕ) (g : TaskSetData → TaskSetData) → ((set : TaskSetData) → Spares set (g set))
      → (state : StageState) → AreCharged epoch state.attempts
      → AreCharged epoch (changed_set number g state).attempts
  charged_own number g spares state are =
      charged_changed state.attempts (place_of_attempt state number) (with_set g)
      (keeps_charge g spares) are

  -- its newest set
  pub charged_newest :
      (g : TaskSetData → TaskSetData) → ((set : TaskSetData) → Spares set (g set))
      → (state : StageState) → AreCharged epoch state.attempts
      → AreCharged epoch (changed_newest g state).attempts
  charged_newest g spares state are =
      charged_changed state.attempts (length state.attempts - 1) (with_set g)
      (keeps_charge g spares) are

  -- a success told to its own set, and to the newest one too
  pub charged_success :
      (a : AttemptId) (now : ℕ) (state : StageState) → AreCharged epoch state.attempts
      → AreCharged epoch (changed_set a.stage_attempt
      (λ set. after_success set a.partition (Some a.nth) now) state).attempts
  charged_success a now state are =
      charged_own a.stage_attempt (λ set. after_success set a.partition (Some a.nth) now)
      (spares_success a.partition (Some a.nth) now) state are

  pub charged_both :
      (a : AttemptId) (now : ℕ) (state : StageState) → AreCharged epoch state.attempts
      → AreCharged epoch (changed_newest (λ set. after_success set a.partition None now)
      (changed_set a.stage_attempt
      (λ set. after_success set a.partition (Some a.nth) now) state)).attempts
  charged_both a now state are =
      charged_newest (λ set. after_success set a.partition None now)
      (spares_success a.partition None now)
      (changed_set a.stage_attempt
      (λ set. after_success set a.partition (Some a.nth) now) state)
      (charged_success a now state are)

  -- the newest attempt failed
  pub charged_failed :
      (number : ℕ) (state : StageState)
      → place_of_attempt state number ≡ length state.attempts - 1
      → IfSome (slice_get state.attempts (length state.attempts - 1)) (λ a. a.set.born < epoch)
      → AreCharged epoch state.attempts → AreCharged epoch (with_failed number state).attempts
  charged_failed number state place begun are =
      record {
        past = all_changed (IsPast epoch) state.attempts i failed_attempt
            (λ a at h e. one a at) are.past;
        rising = pairs_last IsBefore state.attempts i failed_attempt (omega (arith, place))
            (λ a b h e. h e) are.rising;
        given_up = rw (newest_changed state.attempts i failed_attempt place)
            (mapped (slice_get state.attempts (length state.attempts - 1)) begun);
      }
    where
      i : ℕ
      i = place_of_attempt state number

      one : (a : StageAttempt) → slice_get state.attempts i ≡ Some a → a.set.born < epoch
      one a at =
          let there : slice_get state.attempts (length state.attempts - 1) ≡ Some a =
          subst (λ n. slice_get state.attempts n ≡ Some a) place at in
          subst (λ o. IfSome o (λ x. x.set.born < epoch)) there begun

      mapped : (o : Option StageAttempt) → IfSome o (λ a. a.set.born < epoch)
          → IfSome (option_map failed_attempt o) (IsGivenUp epoch)
      mapped None h = tt
      mapped (Some a) h = λ e. h

  -- all are forgiven
  pub charged_forgiven :
      (attempts : List StageAttempt) → AreCharged epoch attempts
      → IfSome (slice_get (map forgiven attempts) (length (map forgiven attempts) - 1))
      (IsGivenUp epoch)
      → AreCharged epoch (map forgiven attempts)
  charged_forgiven attempts are newest =
      record {
        past = past attempts;
        rising = rising attempts;
        given_up = newest;
      }
    where
      past : (xs : List StageAttempt) → All (IsPast epoch) (map forgiven xs)
      past xs =
          All-map (IsPast epoch) forgiven xs (λ i a l e. absurd (true≢false (sym e)))

      rising : (xs : List StageAttempt) → AllPairs IsBefore (map forgiven xs)
      rising [] = λ i j d lt l. absurd (omega (arith, l))
      rising (x ∷ xs) =
          AllPairs-cons IsBefore (forgiven x) (map forgiven xs)
          (λ i a l e. absurd (true≢false (sym e))) (rising xs)

  -- one more attempt, which begins now
  pub charged_started :
      (t : TrackerData) (limits : Limits) (stage : StageData) (state : StageState)
      → t.epoch ≡ epoch → AreCharged epoch state.attempts
      → AreCharged epoch (started t limits stage state).attempts
  charged_started t limits stage state now are =
      record {
        past = All-push (IsPast epoch) before fresh past (λ e. absurd (true≢false (sym e)));
        rising = all_pairs_push IsBefore before fresh
            (pairs_changed IsBefore state.attempts last (with_set as_zombie)
            (λ a b h e. h e) (λ a b h e. h e) are.rising)
            (λ k a l e. subst (λ n. (get_or before k a).set.born < n) (sym now) (past k a l e));
        given_up = rw (last_is before fresh) (λ e. absurd (true≢false (sym e)));
      }
    where
      last : ℕ
      last = length state.attempts - 1

      before : List StageAttempt
      before = change_at state.attempts (length state.attempts - 1) (with_set as_zombie)

      fresh : StageAttempt
      fresh = stage_attempt (new_set t limits stage state.results state.held) false

      past : All (IsPast epoch) before
      past = all_changed (IsPast epoch) state.attempts last (with_set as_zombie)
          (λ a at h e. h e) are.past
