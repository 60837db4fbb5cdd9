-- A job that is done is whole, and a task set counts failures.
use Rattle.std.proofs.Common.{◌≡◌, ℕ, zero, suc, ◌+◌, ◌-◌, ◌<◌, ◌≤◌, ◌==◌, Bool, true, false, if◌then◌else◌, List, [], ◌∷◌, length, nat_le, nat_lt, Option, Some, None, option_map, slice_get, refl, ap, subst, ◌∙◌, arith, length-append}
use Rattle.std.specs.List.{list_all}
use Rattle.std.proofs.lemmas.Bool.Decides.{nat_tests}
use Rattle.sc_base.specs.Lists.{numbers_from}
use Rattle.sc_ids.specs.Changes.{change_at}
use Rattle.sc_ids.specs.declared.attempts.AttemptId.{AttemptId}
use Rattle.sc_ids.specs.declared.failures.FailureCause.{FailureCause}
use Rattle.sc_ids.proofs.ChangeLemmas.{length_change_at, slice_get_change_other, slice_get_change_same}
use Rattle.sc_taskset.specs.Lookups.{is_task_of, is_there_and, task_at, with_task}
use Rattle.sc_taskset.specs.Reports.{after_held, ended_task, failed_task, held_task, is_counted_in, is_failure, is_last_failure, noted_task, reaches_limit}
use Rattle.sc_taskset.specs.Reports as taskset
use Rattle.sc_taskset.specs.TaskSetData.{TaskData, TaskSetData}
use Rattle.sc_taskset.proofs.ChangeLemmas.{find_changed, find_other}
use Rattle.sc_dag.specs.DagData.{DagData, StageState, changed_set, place_of_attempt, set_in, stage_at, with_set}
use Rattle.sc_dag.specs.Outputs.{is_done}
use Rattle.sc_dag.specs.Reports.{after_hold, in_own_set, set_of, told_held}
use Rattle.sc_dag.specs.declared.attempts.StageAttempt.{StageAttempt}
use Rattle.sc_dag.proofs.Tests.{both_left, both_right}
use Rattle.sc_core.specs.CoreData.{result_stage}
use Rattle.sc_core.specs.Laws.{DoneJobsAreWhole}
use Rattle.sc_core.proofs.LookupLemmas.{set_among}

-- ---- a job that is done

-- what passes on all numbers of a range passes on each
all_from :
    (p : ℕ → Bool) (first count k : ℕ) → list_all p (numbers_from first count) ≡ true
    → first ≤ k → k < first + count → p k ≡ true
all_from p first zero k all le lt = absurd (omega (arith, le, lt))
all_from p first (suc count) k all le lt =
    by (first == k) refl
    (λ more. all_from p (suc first) count k
    (both_right (p first) (list_all p (numbers_from (suc first) count)) all) more
    (omega (arith, lt)))
  where
    by : (b : Bool) → (first == k) ≡ b → (suc first ≤ k → p k ≡ true) → p k ≡ true
    by true e f =
        let is : first ≡ k = grind (arith, nat_tests, e) in
        subst (λ (n : ℕ). p n ≡ true) is
        (both_left (p first) (list_all p (numbers_from (suc first) count)) all)
    by false e f = f (grind (arith, nat_tests, e, le))

pub done_jobs_are_whole : DoneJobsAreWhole
done_jobs_are_whole c p sound done lt =
    all_from (is_done c.dag (result_stage c.dag)) 0
    (stage_at c.dag (result_stage c.dag)).tasks p (sound.job.done done) (omega arith)
    (omega (arith, lt))

-- ---- failures of a partition

-- a set has counted as many failures of a partition as are allowed
abbrev pub has_as_many : ℕ → TaskData → Bool
has_as_many limit t = nat_le limit (length t.failures)

abbrev pub is_full : Option TaskSetData → ℕ → Bool
is_full None p = false
is_full (Some set) p = is_there_and (has_as_many set.limits.task_failures) (task_at p set.tasks)

-- a failure that is the last one that is allowed is counted
pub last_counts :
    (set : TaskSetData) (p nth : ℕ) (cause : FailureCause) → reaches_limit set p nth cause ≡ true
    → is_full (Some (taskset.after_failure set p nth cause)) p ≡ true
last_counts set p nth cause e =
    ap (λ o. is_there_and (has_as_many set.limits.task_failures) o) at
    ∙ by (task_at p set.tasks) e
  where
    counts : Bool
    counts = is_counted_in set cause

    f : TaskData → TaskData
    f = failed_task (is_counted_in set cause) nth

    same : (t : TaskData) → (f t).partition ≡ t.partition
    same t = one (is_failure counts nth t)
      where
        one : (b : Bool) → (if b then noted_task nth (ended_task nth t)
            else ended_task nth t).partition ≡ t.partition
        one true = refl
        one false = refl

    at : task_at p (with_task p f set.tasks) ≡ option_map f (task_at p set.tasks)
    at = find_changed (is_task_of p) f (λ t. ap (λ (q : ℕ). q == p) (same t)) set.tasks

    by : (o : Option TaskData)
        → is_there_and (is_last_failure set.limits.task_failures counts nth) o ≡ true
        → is_there_and (has_as_many set.limits.task_failures) (option_map f o) ≡ true
    by None h = h
    by (Some t) h =
        let fails : is_failure counts nth t ≡ true = both_left (is_failure counts nth t) _ h in
        let most : nat_le set.limits.task_failures (length t.failures + 1) ≡ true =
        both_right (is_failure counts nth t) _ h in
        rw (fails, length-append t.failures (nth ∷ [])) most

-- a set told of a grant has counted as much
hold_full :
    (set : TaskSetData) (q : ℕ) (denied : Bool) (p : ℕ)
    → is_full (Some (after_held set q denied)) p ≡ is_full (Some set) p
hold_full set q denied p = by (q == p) refl
  where
    test : TaskData → Bool
    test = has_as_many set.limits.task_failures

    one : (o : Option TaskData)
        → is_there_and test (option_map (held_task denied) o) ≡ is_there_and test o
    one None = refl
    one (Some t) = refl

    by : (b : Bool) → (q == p) ≡ b
        → is_there_and test (task_at p (with_task q (held_task denied) set.tasks))
        ≡ is_there_and test (task_at p set.tasks)
    by true e =
        let is : q ≡ p = grind (arith, nat_tests, e) in
        subst (λ (r : ℕ). is_there_and test (task_at r (with_task q (held_task denied) set.tasks))
        ≡ is_there_and test (task_at r set.tasks)) is
        (ap (λ o. is_there_and test o)
        (find_changed (is_task_of q) (held_task denied) (λ t. refl) set.tasks)
        ∙ one (task_at q set.tasks))
    by false e =
        ap (λ o. is_there_and test o)
        (find_other (is_task_of q) (is_task_of p) (held_task denied)
        (λ t h. (let is : t.partition ≡ q = grind (arith, nat_tests, h) in rw is e))
        (λ t h. (let is : t.partition ≡ q = grind (arith, nat_tests, h) in rw is e))
        set.tasks)

-- the set of an attempt, where it was changed
pub own_set : (d : DagData) (a : AttemptId) (change : TaskSetData → TaskSetData)
    → set_of (in_own_set d a change) a ≡ option_map change (set_of d a)
own_set d a change =
    ap (λ o. set_among o a.stage_attempt)
    (slice_get_change_same d.states a.stage (changed_set a.stage_attempt change))
    ∙ by (slice_get d.states a.stage)
  where
    one : (o : Option StageAttempt)
        → set_in (option_map (with_set change) o) ≡ option_map change (set_in o)
    one None = refl
    one (Some x) = refl

    by : (o : Option StageState)
        → set_among (option_map (changed_set a.stage_attempt change) o) a.stage_attempt
        ≡ option_map change (set_among o a.stage_attempt)
    by None = refl
    by (Some state) =
        let place = place_of_attempt state a.stage_attempt in
        ap (λ (n : ℕ). set_in (slice_get (change_at state.attempts place (with_set change))
        (if nat_lt a.stage_attempt state.before then n else a.stage_attempt - state.before)))
        (length_change_at state.attempts place (with_set change))
        ∙ ap set_in (slice_get_change_same state.attempts place (with_set change))
        ∙ one (slice_get state.attempts place)

-- what is told of a grant
pub held_full : (d : DagData) (a : AttemptId) (denied : Bool) (p : ℕ)
    → is_full (set_of (after_hold d a.stage a.partition denied) a) p ≡ is_full (set_of d a) p
held_full d a denied p =
    ap (λ o. is_full (set_among o a.stage_attempt) p)
    (slice_get_change_same d.states a.stage (told_held a.partition denied))
    ∙ by (slice_get d.states a.stage)
  where
    hold : TaskSetData → TaskSetData
    hold set = after_held set a.partition denied

    one : (o : Option StageAttempt)
        → is_full (set_in (option_map (with_set hold) o)) p ≡ is_full (set_in o) p
    one None = refl
    one (Some x) = hold_full x.set a.partition denied p

    each : (attempts : List StageAttempt) (i j : ℕ) (b : Bool) → (i == j) ≡ b
        → is_full (set_in (slice_get (change_at attempts i (with_set hold)) j)) p
        ≡ is_full (set_in (slice_get attempts j)) p
    each attempts i j true e =
        let is : i ≡ j = grind (arith, nat_tests, e) in
        subst (λ (k : ℕ). is_full (set_in (slice_get (change_at attempts i (with_set hold)) k)) p
        ≡ is_full (set_in (slice_get attempts k)) p) is
        (ap (λ o. is_full (set_in o) p) (slice_get_change_same attempts i (with_set hold))
        ∙ one (slice_get attempts i))
    each attempts i j false e =
        ap (λ o. is_full (set_in o) p)
        (slice_get_change_other attempts i j (with_set hold)
        (λ is. grind (arith, nat_tests, e, is)))

    by : (o : Option StageState)
        → is_full (set_among (option_map (told_held a.partition denied) o) a.stage_attempt) p
        ≡ is_full (set_among o a.stage_attempt) p
    by None = refl
    by (Some state) =
        let last = length state.attempts - 1 in
        let place = place_of_attempt state a.stage_attempt in
        ap (λ (n : ℕ). is_full (set_in (slice_get (change_at state.attempts last (with_set hold))
        (if nat_lt a.stage_attempt state.before then n else a.stage_attempt - state.before))) p)
        (length_change_at state.attempts last (with_set hold))
        ∙ each state.attempts last place (last == place) refl
