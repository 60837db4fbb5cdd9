-- How many failures of a partition count in a set.
use Rattle.std.proofs.Common.{◌≡◌, ℕ, ◌+◌, ◌≤◌, ◌==◌, ◌||◌, Bool, true, false, cond, if◌then◌else◌, List, [], ◌∷◌, length, nat_le, Some, option_map, refl, ap, sym, ◌∙◌, arith, rules}
use Rattle.std.proofs.lemmas.Bool.Decides.{nat_tests}
use Rattle.std.proofs.lemmas.List.{length-append}
use Rattle.sc_ids.specs.declared.failures.FailureCause.{FailureCause}
use Rattle.sc_taskset.specs.Lookups.{copy_at, is_nth, is_running, task_at}
use Rattle.sc_taskset.specs.Reports.{after_failure, ended_task, failed_task, is_counted_in, is_failure, is_last_failure, noted_task, reaches_limit}
use Rattle.sc_taskset.specs.TaskSetData.{TaskData, TaskSetData}
use Rattle.sc_taskset.specs.declared.tasks.RunningCopy.{RunningCopy}
use Rattle.sc_taskset.proofs.LawLemmas.{task_changed, task_other}
use Rattle.sc_history.proofs.Keeping.{failures_among, failures_of}

-- an attempt with an executor runs
pub running_there : (nth : ℕ) (copies : List RunningCopy) (exec : ℕ)
    → option_map (λ c. c.exec) (copy_at nth copies) ≡ Some exec → is_running nth copies ≡ true
running_there nth [] exec h = absurd (search (rules, h))
running_there nth (c ∷ cs) exec h = by (is_nth nth c) h (λ k. running_there nth cs exec k)
  where
    by : (b : Bool) → option_map (λ (x : RunningCopy). x.exec) (cond b (Some c) (copy_at nth cs))
        ≡ Some exec
        → (option_map (λ (x : RunningCopy). x.exec) (copy_at nth cs) ≡ Some exec
        → is_running nth cs ≡ true)
        → (b || is_running nth cs) ≡ true
    by true k rest = refl
    by false k rest = rest k

failed_part : (counts : Bool) (nth : ℕ) (t : TaskData)
    → (failed_task counts nth t).partition ≡ t.partition
failed_part counts nth t = by (is_failure counts nth t)
  where
    by : (b : Bool) → (if b then noted_task nth (ended_task nth t) else ended_task nth t).partition
        ≡ t.partition
    by true = refl
    by false = refl

-- a failure of another partition changes nothing
pub failed_other : (set : TaskSetData) (q nth : ℕ) (cause : FailureCause) (p : ℕ)
    → (q == p) ≡ false → failures_of (after_failure set q nth cause) p ≡ failures_of set p
failed_other set q nth cause p apart =
    ap failures_among
    (task_other q p (failed_task (is_counted_in set cause) nth) apart
    (failed_part (is_counted_in set cause) nth) set.tasks)

-- one of a running attempt is one more where it counts
pub failed_more : (set : TaskSetData) (q nth : ℕ) (cause : FailureCause) (t : TaskData)
    → task_at q set.tasks ≡ Some t → is_running nth t.copies ≡ true
    → length (failures_of (after_failure set q nth cause) q)
    ≡ length (failures_of set q) + (if is_counted_in set cause then 1 else 0)
failed_more set q nth cause t there runs =
    ap (λ o. length (failures_among o))
    (task_changed q (failed_task (is_counted_in set cause) nth)
    (failed_part (is_counted_in set cause) nth) set.tasks)
    ∙ ap (λ o. length (failures_among
    (option_map (failed_task (is_counted_in set cause) nth) o))) there
    ∙ by (is_counted_in set cause)
    ∙ ap (λ o. length (failures_among o) + (if is_counted_in set cause then 1 else 0)) (sym there)
  where
    by : (b : Bool) → length (failed_task b nth t).failures
        ≡ length t.failures + (if b then 1 else 0)
    by false = omega arith
    by true = rw runs (length-append t.failures (nth ∷ []))

-- and below the limit there is room for another one
pub failed_below : (set : TaskSetData) (q nth : ℕ) (cause : FailureCause) (t : TaskData)
    → task_at q set.tasks ≡ Some t → is_running nth t.copies ≡ true
    → is_counted_in set cause ≡ true → reaches_limit set q nth cause ≡ false
    → length (failures_of set q) + 2 ≤ set.limits.task_failures
failed_below set q nth cause t there runs counted low =
    let at : is_last_failure set.limits.task_failures (is_counted_in set cause) nth t ≡ false =
    rw there at low in
    let short : nat_le set.limits.task_failures (length t.failures + 1) ≡ false =
    rw (counted, runs) at at in
    let same : length (failures_of set q) ≡ length t.failures =
    ap (λ o. length (failures_among o)) there in
    grind (arith, nat_tests, short, same)
