-- What is there for an executor.
use Rattle.std.proofs.Common.{◌≡◌, ℕ, ◌<◌, Bool, true, false, cond, not, ◌&&◌, ◌||◌, List, [], ◌∷◌, length, map, Option, Some, None, IfSome, inl, inr, ◌⊎◌, refl, ◌∙◌, arith, rules}
use Rattle.std.specs.List.{find, list_any}
use Rattle.std.specs.Option.{option_or}
use Rattle.std.proofs.lemmas.Bool.Decides.{nat_tests}
use Rattle.sc_taskset.specs.declared.tasks.GivenTask.{GivenTask}
use Rattle.sc_taskset.specs.declared.tasks.RunningCopy.{RunningCopy}
use Rattle.sc_taskset.specs.TaskSetData.{TaskData, TaskSetData}
use Rattle.sc_taskset.specs.Lookups.{is_there_and, task_at, is_finished, is_idle, is_one_elsewhere}
use Rattle.sc_taskset.specs.Offers.{IsNever, IsSmallest, Offers, is_copyable_task, is_pending_task, is_slow, may_be_given, given_of}
use Rattle.sc_taskset.specs.Sound.{AreRising}
use Rattle.sc_taskset.specs.Rows.{offered_task}
use Rattle.sc_taskset.proofs.FindLemmas.{first_found, found_passes, none_found}
use Rattle.sc_taskset.proofs.TaskLemmas.{may_join}

-- the offer that a task is
abbrev pub offer_of : TaskData → GivenTask
offer_of t = record { partition = t.partition; nth = t.given }

-- nothing is there where no task is offered
pub offers_nothing :
    (s : TaskSetData) (exec now : ℕ)
    → offered_task s.is_zombie s.limits.speculation (is_slow s now) exec s.tasks ≡ None
    → Offers s exec now None
offers_nothing s exec now none = by s.is_zombie s.limits.speculation none
  where
    copyable : TaskData → Bool
    copyable = is_copyable_task (is_slow s now) exec

    copies : Option TaskData → Bool
    copies = is_there_and (is_copyable_task (is_slow s now) exec)

    by : (z c : Bool) → offered_task z c (is_slow s now) exec s.tasks ≡ None
        → ((p : ℕ) → (not z && is_there_and is_pending_task (task_at p s.tasks)) ≡ false)
        × ((p : ℕ) → (c && (not z && copies (task_at p s.tasks))) ≡ false)
    by true true n = (λ p. refl, λ p. refl)
    by true false n = (λ p. refl, λ p. refl)
    by false c n = or (find is_pending_task s.tasks) refl c n
      where
        or : (o : Option TaskData) → find is_pending_task s.tasks ≡ o → (d : Bool)
            → option_or o (cond d (find copyable s.tasks) None) ≡ None
            → ((p : ℕ) → is_there_and is_pending_task (task_at p s.tasks) ≡ false)
            × ((p : ℕ) → (d && copies (task_at p s.tasks)) ≡ false)
        or None e true m =
            (none_found is_pending_task s.tasks e, none_found copyable s.tasks m)
        or None e false m = (none_found is_pending_task s.tasks e, λ p. refl)
        or (Some t) e d m = absurd (search (rules, m))

-- the offered task is the next one
pub offers_task :
    (s : TaskSetData) (exec now : ℕ) (t : TaskData) → AreRising (map (λ u. u.partition) s.tasks)
    → offered_task s.is_zombie s.limits.speculation (is_slow s now) exec s.tasks ≡ Some t
    → Offers s exec now (Some (offer_of t))
offers_task s exec now t rising some = by s.is_zombie s.limits.speculation some
  where
    pends : Bool → ℕ → Bool
    pends z p = not z && is_there_and is_pending_task (task_at p s.tasks)

    copies : Bool → Bool → ℕ → Bool
    copies z c p =
        c && (not z && is_there_and (is_copyable_task (is_slow s now) exec) (task_at p s.tasks))

    Next : Bool → Bool → Type 0
    Next z c =
        (IsSmallest (pends z) t.partition
        ⊎ (IsNever (pends z) × IsSmallest (copies z c) t.partition))
        × (t.given ≡ given_of s t.partition)

    smallest :
        (test : TaskData → Bool) → find test s.tasks ≡ Some t
        → IsSmallest (λ p. is_there_and test (task_at p s.tasks)) t.partition
        × (t.given ≡ given_of s t.partition)
    smallest test e =
        let f = first_found test s.tasks t rising e in
        (record { passes = rw f.0 (found_passes test s.tasks t e); smallest = f.1 }, rw f.0 refl)

    by : (z c : Bool) → offered_task z c (is_slow s now) exec s.tasks ≡ Some t → Next z c
    by true c e = absurd (search (rules, e))
    by false c e = or (find is_pending_task s.tasks) refl c e
      where
        or : (o : Option TaskData) → find is_pending_task s.tasks ≡ o → (d : Bool)
            → option_or o (cond d (find (is_copyable_task (is_slow s now) exec) s.tasks) None)
            ≡ Some t
            → Next false d
        or None e true m =
            let g = smallest (is_copyable_task (is_slow s now) exec) m in
            (inr (none_found is_pending_task s.tasks e, g.0), g.1)
        or None e false m = absurd (search (rules, m))
        or (Some u) e d m =
            let g = smallest is_pending_task (e ∙ m) in (inl g.0, g.1)

-- a task that is pending or copyable has room for one more attempt
task_joins :
    (slow : RunningCopy → Bool) (exec : ℕ) (t : TaskData) (z c : Bool)
    → ((not z && is_pending_task t) || (c && (not z && is_copyable_task slow exec t))) ≡ true
    → may_join exec t ≡ true
task_joins slow exec t z c may =
    by z c (is_finished t) (is_idle t.copies) t.denied (is_one_elsewhere exec t.copies)
    (list_any slow t.copies) may
  where
    by : (z c f i d o w : Bool)
        → ((not z && (not f && (i && not d)))
        || (c && (not z && (not f && (o && (not d && w))))))
        ≡ true → (i || o) ≡ true
    by z c f true d o w m = refl
    by z c f false d true w m = refl
    by z c f false d false w m = absurd (grind (arith, nat_tests, m))

-- what may be handed out has room for one more attempt
pub joins_given :
    (s : TaskSetData) (exec now partition : ℕ) → may_be_given s exec now partition ≡ true
    → IfSome (task_at partition s.tasks) (λ t. may_join exec t ≡ true)
joins_given s exec now partition may = by (task_at partition s.tasks) may
  where
    by : (o : Option TaskData)
        → ((not s.is_zombie && is_there_and is_pending_task o)
        || (s.limits.speculation
        && (not s.is_zombie && is_there_and (is_copyable_task (is_slow s now) exec) o)))
        ≡ true → IfSome o (λ t. may_join exec t ≡ true)
    by None m = tt
    by (Some t) m = task_joins (is_slow s now) exec t s.is_zombie s.limits.speculation m

-- where one may join, fewer than two run
pub joins_short : (exec : ℕ) (t : TaskData) → may_join exec t ≡ true → length t.copies < 2
joins_short exec t joins = by t.copies joins
  where
    by : (copies : List RunningCopy) → (is_idle copies || is_one_elsewhere exec copies) ≡ true
        → length copies < 2
    by [] j = omega arith
    by (c ∷ []) j = omega arith
    by (c ∷ d ∷ copies) j = absurd (search (rules, j))
