-- What a success finishes in a task set, and what a loss takes.
use Rattle.std.proofs.Common.{◌≡◌, ◌⊎◌, inl, inr, ℕ, ◌&&◌, not, Bool, true, false, if◌then◌else◌, List, [], ◌∷◌, map, Option, Some, None, option_map, refl, ap, sym, ◌∙◌, arith, rules, true≢false}
use Rattle.std.specs.List.{find}
use Rattle.std.specs.Option.{unwrap_or}
use Rattle.std.proofs.lemmas.Bool.Decides.{nat_tests}
use Rattle.sc_taskset.specs.Lookups.{are_finished, copy_at, is_finish, is_finish_on, is_finished, is_there_and, task_at, is_task_of}
use Rattle.sc_taskset.specs.Reports.{after_loss, after_success, lost_task, redoes_lost, succeeded_task}
use Rattle.sc_taskset.specs.TaskSetData.{TaskData, TaskSetData}
use Rattle.sc_taskset.specs.declared.tasks.Finish.{Finish}
use Rattle.sc_taskset.specs.declared.tasks.Finish.TheVariants.{InOlderSet, OnExecutor, Unfinished}
use Rattle.sc_taskset.specs.declared.tasks.RunningCopy.{RunningCopy}
use Rattle.sc_ids.specs.declared.attempts.AttemptId.{AttemptId}
use Rattle.sc_taskset.proofs.LawLemmas.{task_changed, task_other}
use Rattle.sc_dag.specs.Reports.{wants_in}
use Rattle.sc_dag.specs.Sound.{finish_among, finish_in, runner_among, runner_in}

-- ---- what a success finishes

-- what is finished isn't wanted
pub finished_unwanted :
    (set : TaskSetData) (p : ℕ) → is_finish (finish_in (Some set) p) ≡ true
    → wants_in (Some set) p ≡ false
finished_unwanted set p e = by (task_at p set.tasks) e
  where
    by : (o : Option TaskData) → is_finish (finish_among o) ≡ true
        → is_there_and (λ t. not (is_finished t)) o ≡ false
    by None h = refl
    by (Some t) h = ap not h

-- other partitions stay as they were
pub success_other :
    (set : TaskSetData) (q p : ℕ) (nth : Option ℕ) (now : ℕ) → (q ≡ p → ⊥)
    → (finish_in (Some (after_success set q nth now)) p ≡ finish_in (Some set) p)
    × (wants_in (Some (after_success set q nth now)) p ≡ wants_in (Some set) p)
success_other set q p nth now ne =
    let same = task_other q p (succeeded_task nth) (grind (arith, nat_tests, ne)) (λ t. refl)
    set.tasks in
    (ap finish_among same, ap (is_there_and (λ t. not (is_finished t))) same)

-- a partition that was wanted is finished where its attempt runs
pub success_own :
    (set : TaskSetData) (a : AttemptId) (exec now : ℕ)
    → wants_in (Some set) a.partition ≡ true → runner_in (Some set) a ≡ Some exec
    → finish_in (Some (after_success set a.partition (Some a.nth) now)) a.partition
    ≡ OnExecutor exec
success_own set a exec now wants runs =
    ap finish_among (task_changed a.partition (succeeded_task (Some a.nth)) (λ t. refl) set.tasks)
    ∙ by (task_at a.partition set.tasks) wants runs
  where
    copy : (o : Option RunningCopy) (f : Finish) → option_map (λ c. c.exec) o ≡ Some exec
        → unwrap_or (option_map (λ c. OnExecutor c.exec) o) f ≡ OnExecutor exec
    copy None f e = absurd (search (rules, e))
    copy (Some c) f e = let is : c.exec ≡ exec = search (rules, e) in ap OnExecutor is

    pick : (b : Bool) (t : TaskData) → not b ≡ true
        → option_map (λ c. c.exec) (copy_at a.nth t.copies) ≡ Some exec
        → (if b then t.finish
        else unwrap_or (option_map (λ c. OnExecutor c.exec) (copy_at a.nth t.copies)) t.finish)
        ≡ OnExecutor exec
    pick true t e r = absurd (true≢false (sym e))
    pick false t e r = copy (copy_at a.nth t.copies) t.finish r

    by : (o : Option TaskData) → is_there_and (λ t. not (is_finished t)) o ≡ true
        → runner_among o a.nth ≡ Some exec
        → finish_among (option_map (succeeded_task (Some a.nth)) o) ≡ OnExecutor exec
    by None w r = absurd (true≢false (sym w))
    by (Some t) w r = pick (is_finished t) t w r

-- or in an older set
pub success_older :
    (set : TaskSetData) (p now : ℕ) → wants_in (Some set) p ≡ true
    → finish_in (Some (after_success set p None now)) p ≡ InOlderSet
success_older set p now wants =
    ap finish_among (task_changed p (succeeded_task None) (λ t. refl) set.tasks)
    ∙ by (task_at p set.tasks) wants
  where
    pick : (b : Bool) (f : Finish) → not b ≡ true → (if b then f else InOlderSet) ≡ InOlderSet
    pick true f e = absurd (true≢false (sym e))
    pick false f e = refl

    by : (o : Option TaskData) → is_there_and (λ t. not (is_finished t)) o ≡ true
        → finish_among (option_map (succeeded_task None) o) ≡ InOlderSet
    by None w = absurd (true≢false (sym w))
    by (Some t) w = pick (is_finished t) t.finish w

-- where a set ends with a success, all its tasks are finished
pub success_ends :
    (set : TaskSetData) (q : ℕ) (nth : Option ℕ) (now : ℕ) → set.is_zombie ≡ false
    → (after_success set q nth now).is_zombie ≡ true
    → are_finished (after_success set q nth now).tasks ≡ true
success_ends set q nth now live dead =
    rw live at dead

-- ---- what a loss takes

find_mapped :
    {A : Type 0} (q : A → Bool) (f : A → A) → ((x : A) → q (f x) ≡ q x) → (xs : List A)
    → find q (map f xs) ≡ option_map f (find q xs)
find_mapped q f same [] = refl
find_mapped {A = A} q f same (x ∷ xs) = by (q x) refl (find_mapped q f same xs)
  where
    by : (b : Bool) → q x ≡ b → find q (map f xs) ≡ option_map f (find q xs)
        → (if q (f x) then Some (f x) else find q (map f xs))
        ≡ option_map f (if b then Some x else find q xs)
    by true e rest = rw (same x ∙ e) refl
    by false e rest = rw (same x ∙ e) rest

task_lost :
    (set : TaskSetData) (exec p : ℕ)
    → task_at p (after_loss set exec).tasks
    ≡ option_map (lost_task exec (redoes_lost set)) (task_at p set.tasks)
task_lost set exec p =
    find_mapped (is_task_of p) (lost_task exec (redoes_lost set)) (λ t. refl) set.tasks

-- what is finished on an executor after a loss was so before
pub loss_finish :
    (set : TaskSetData) (exec p on : ℕ)
    → finish_in (Some (after_loss set exec)) p ≡ OnExecutor on
    → finish_in (Some set) p ≡ OnExecutor on
loss_finish set exec p on e =
    by (task_at p set.tasks) (sym (ap finish_among (task_lost set exec p)) ∙ e)
  where
    pick : (b : Bool) (f : Finish) → (if b then Unfinished else f) ≡ OnExecutor on
        → f ≡ OnExecutor on
    pick true f h = absurd (search (rules, h))
    pick false f h = h

    by : (o : Option TaskData)
        → finish_among (option_map (lost_task exec (redoes_lost set)) o) ≡ OnExecutor on
        → finish_among o ≡ OnExecutor on
    by None h = h
    by (Some t) h = pick (redoes_lost set && is_finish_on exec t.finish) t.finish h

-- what is wanted after a loss was wanted before, or finished on the executor
pub loss_wants :
    (set : TaskSetData) (exec p : ℕ) → wants_in (Some (after_loss set exec)) p ≡ true
    → (wants_in (Some set) p ≡ true) ⊎ (finish_in (Some set) p ≡ OnExecutor exec)
loss_wants set exec p e =
    by (task_at p set.tasks)
    (sym (ap (is_there_and (λ t. not (is_finished t))) (task_lost set exec p)) ∙ e)
  where
    on : (f : Finish) → is_finish_on exec f ≡ true → f ≡ OnExecutor exec
    on Unfinished h = absurd (true≢false (sym h))
    on (OnExecutor x) h = let is : x ≡ exec = grind (arith, nat_tests, h) in ap OnExecutor is
    on InOlderSet h = absurd (true≢false (sym h))

    pick : (a b : Bool) (f : Finish) → is_finish_on exec f ≡ b
        → not (is_finish (if a && b then Unfinished else f)) ≡ true
        → (not (is_finish f) ≡ true) ⊎ (f ≡ OnExecutor exec)
    pick true true f is h = inr (on f is)
    pick true false f is h = inl h
    pick false b f is h = inl h

    by : (o : Option TaskData)
        → is_there_and (λ t. not (is_finished t))
        (option_map (lost_task exec (redoes_lost set)) o) ≡ true
        → (is_there_and (λ t. not (is_finished t)) o ≡ true)
        ⊎ (finish_among o ≡ OnExecutor exec)
    by None h = absurd (true≢false (sym h))
    by (Some t) h = pick (redoes_lost set) (is_finish_on exec t.finish) t.finish refl h

-- a set that makes nothing again wants what it wanted
pub loss_wanted :
    (set : TaskSetData) (exec p : ℕ) → set.is_map ≡ false
    → wants_in (Some (after_loss set exec)) p ≡ wants_in (Some set) p
loss_wanted set exec p kind =
    ap (is_there_and (λ t. not (is_finished t))) (task_lost set exec p)
    ∙ by (task_at p set.tasks)
  where
    by : (o : Option TaskData)
        → is_there_and (λ t. not (is_finished t))
        (option_map (lost_task exec (redoes_lost set)) o)
        ≡ is_there_and (λ t. not (is_finished t)) o
    by None = refl
    by (Some t) = rw kind refl
