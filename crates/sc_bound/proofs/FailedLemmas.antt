-- How many failures of a partition count in the set of a number.
use Rattle.std.proofs.Common.{◌≡◌, ◌⊎◌, inl, inr, ℕ, ◌+◌, ◌≤◌, ◌==◌, Bool, true, false, if◌then◌else◌, List, length, Option, Some, None, option_map, refl, ap, sym, subst, ◌∙◌, arith, rules, true≢false}
use Rattle.std.proofs.lemmas.Bool.{cases_eq}
use Rattle.std.proofs.lemmas.Bool.Decides.{nat_tests}
use Rattle.sc_ids.specs.declared.attempts.AttemptId.{AttemptId}
use Rattle.sc_ids.specs.declared.failures.FailureCause.{FailureCause}
use Rattle.sc_taskset.specs.Lookups.{is_running, task_at}
use Rattle.sc_taskset.specs.Reports.{after_failure, is_counted_in}
use Rattle.sc_taskset.specs.TaskSetData.{TaskData, TaskSetData}
use Rattle.sc_dag.specs.DagData.{DagData}
use Rattle.sc_dag.specs.Reports.{after_failed, reaches_limit_in, set_of}
use Rattle.sc_dag.specs.Sound.{runner_among, runner_in, runner_of}
use Rattle.sc_history.specs.Evidence.{is_of_task}
use Rattle.sc_history.proofs.Keeping.{failures_of}
use Rattle.sc_bound.specs.Accounts.{counts_in}
use Rattle.sc_bound.specs.Numbered.{set_at}
use Rattle.sc_bound.proofs.FailLemmas.{failed_below, failed_more, failed_other, running_there}
use Rattle.sc_bound.proofs.SlotLemmas.{set_beside, set_own}

-- in a set that may be there
abbrev pub fails_in : Option TaskSetData → ℕ → ℕ
fails_in None p = 0
fails_in (Some set) p = length (failures_of set p)

abbrev pub fails_at : DagData → ℕ → ℕ → ℕ → ℕ
fails_at d s k p = fails_in (set_at d s k) p

-- ---- the task of an attempt that runs

record RunsIn (set : TaskSetData) (a : AttemptId) : Type 0 where
  task : TaskData
  there : task_at a.partition set.tasks ≡ Some task
  runs : is_running a.nth task.copies ≡ true

runs_in : (set : TaskSetData) (a : AttemptId) (exec : ℕ) → runner_in (Some set) a ≡ Some exec
    → RunsIn set a
runs_in set a exec h = by (task_at a.partition set.tasks) refl h
  where
    by : (o : Option TaskData) → task_at a.partition set.tasks ≡ o
        → runner_among o a.nth ≡ Some exec → RunsIn set a
    by None e k = absurd (search (rules, k))
    by (Some t) e k =
        record { task = t; there = e; runs = running_there a.nth t.copies exec k }

-- ---- a failure told to its own set

module _ (d : DagData) (a : AttemptId) (exec : ℕ) (cause : FailureCause)
    (runs : runner_of d a ≡ Some exec) where
  abbrev g : TaskSetData → TaskSetData
  g set = after_failure set a.partition a.nth cause

  -- it is one more where it counts
  pub own_fails : fails_at (after_failed d a cause) a.stage a.stage_attempt a.partition
      ≡ fails_at d a.stage a.stage_attempt a.partition
      + (if counts_in (set_of d a) cause then 1 else 0)
  own_fails =
      ap (λ o. fails_in o a.partition) (set_own d a g) ∙ by (set_of d a) runs
    where
      by : (o : Option TaskSetData) → runner_in o a ≡ Some exec
          → fails_in (option_map (λ set. after_failure set a.partition a.nth cause) o) a.partition
          ≡ fails_in o a.partition + (if counts_in o cause then 1 else 0)
      by None h = absurd (search (rules, h))
      by (Some set) h =
          let r = runs_in set a exec h in
          failed_more set a.partition a.nth cause r.task r.there r.runs

  -- and below the limit there is room for another one
  pub own_below : (set : TaskSetData) → set_of d a ≡ Some set → is_counted_in set cause ≡ true
      → reaches_limit_in (set_of d a) a cause ≡ false
      → fails_at d a.stage a.stage_attempt a.partition + 2 ≤ set.limits.task_failures
  own_below set at counted low =
      let r = runs_in set a exec (ap (λ o. runner_in o a) (sym at) ∙ runs) in
      let le = failed_below set a.partition a.nth cause r.task r.there r.runs counted
      (ap (λ o. reaches_limit_in o a cause) (sym at) ∙ low) in
      let same : fails_at d a.stage a.stage_attempt a.partition
      ≡ length (failures_of set a.partition) = ap (λ o. fails_in o a.partition) at in
      omega (arith, le, same)

  -- those of another task stay
  pub other_fails : (s k p : ℕ) → is_of_task s k p a ≡ false
      → fails_at (after_failed d a cause) s k p ≡ fails_at d s k p
  other_fails s k p apart = by (cases_eq s a.stage) (cases_eq k a.stage_attempt)
    where
      beside : (s ≡ a.stage → k ≡ a.stage_attempt → ⊥)
          → fails_at (after_failed d a cause) s k p ≡ fails_at d s k p
      beside ne = ap (λ o. fails_in o p) (set_beside d a g s k ne)

      one : (q : Bool) → (a.partition == p) ≡ q → s ≡ a.stage → k ≡ a.stage_attempt
          → (o : Option TaskSetData)
          → fails_in (option_map (λ set. after_failure set a.partition a.nth cause) o) p
          ≡ fails_in o p
      one q e at number None = refl
      one false e at number (Some set) =
          ap (λ (xs : List ℕ). length xs) (failed_other set a.partition a.nth cause p e)
      one true e at number (Some set) =
          let it : is_of_task s k p a ≡ true = grind (arith, nat_tests, e, at, number) in
          absurd (true≢false (sym it ∙ apart))

      by : (s ≡ a.stage) ⊎ (s ≡ a.stage → ⊥) → (k ≡ a.stage_attempt) ⊎ (k ≡ a.stage_attempt → ⊥)
          → fails_at (after_failed d a cause) s k p ≡ fails_at d s k p
      by (inl e) (inl f) =
          subst (λ (r : ℕ). fails_at (after_failed d a cause) r k p ≡ fails_at d r k p) (sym e)
          (subst (λ (n : ℕ). fails_at (after_failed d a cause) a.stage n p
          ≡ fails_at d a.stage n p) (sym f)
          (ap (λ o. fails_in o p) (set_own d a g)
          ∙ one (a.partition == p) refl e f (set_at d a.stage a.stage_attempt)))
      by (inl e) (inr ne) = beside (λ x y. ne y)
      by (inr ne) f = beside (λ x y. ne x)
