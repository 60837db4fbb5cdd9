-- Each change of a task set but one leaves its tasks held back as they were.
use Rattle.std.proofs.Common.{◌≡◌, ℕ, ◌<◌, ◌==◌, Bool, true, false, cond, if◌then◌else◌, List, [], ◌∷◌, All, get_or, length, map, Option, Some, refl, ap, sym, subst, ◌∙◌, arith}
use Rattle.std.proofs.lemmas.Bool.Decides.{nat_tests}
use Rattle.std.proofs.lemmas.List.Elements.{All-cons, All-head, All-map, All-tail}
use Rattle.sc_base.specs.Lists.{at_or}
use Rattle.sc_ids.specs.Changes.{change_at}
use Rattle.sc_ids.specs.declared.failures.FailureCause.{FailureCause}
use Rattle.sc_ids.proofs.ChangeLemmas.{at_or_change_other, at_or_change_same}
use Rattle.sc_taskset.specs.Lookups.{is_task_of, with_task}
use Rattle.sc_taskset.specs.Offers.{handed, handed_task}
use Rattle.sc_taskset.specs.Reports.{after_end, after_failure, after_held, after_loss, after_success, as_zombie, ended_task, failed_task, held_task, is_counted_in, is_failure, lost_task, noted_task, redoes_lost, succeeded_task}
use Rattle.sc_taskset.specs.Sound.{AreRising}
use Rattle.sc_taskset.specs.TaskSetData.{TaskData, TaskSetData, partitions_of}
use Rattle.sc_taskset.proofs.ChangeLemmas.{all_kept}
use Rattle.sc_dag.specs.Sound.{AreHeldBy}
use Rattle.sc_dag.proofs.Items.{all_unmapped, pairs_head, pairs_tail}

-- what a set becomes has its tasks held back as before
abbrev pub KeepsHeld : TaskSetData → TaskSetData → Type 0
KeepsHeld set after =
    (flags : List Bool) → AreHeldBy flags (Some set) → AreHeldBy flags (Some after)

-- a task is held back as its flag says
abbrev pub IsHeldBy : List Bool → TaskData → Type 0
IsHeldBy flags t = t.denied ≡ at_or flags t.partition false

-- a change of one task that leaves it held back or free
holds_task :
    (set after : TaskSetData) (q : ℕ) (f : TaskData → TaskData)
    → ((t : TaskData) → (f t).partition ≡ t.partition)
    → ((t : TaskData) → (f t).denied ≡ t.denied)
    → after.tasks ≡ with_task q f set.tasks → KeepsHeld set after
holds_task set after q f same denied is flags held =
    rw is (all_kept (IsHeldBy flags) (is_task_of q) f set.tasks held
    (λ t found h. denied t ∙ h ∙ ap (λ p. at_or flags p false) (sym (same t))))

pub holds_handed : (set : TaskSetData) (p exec now : ℕ) → KeepsHeld set (handed set p exec now)
holds_handed set p exec now =
    holds_task set (handed set p exec now) p (handed_task exec now) (λ t. refl) (λ t. refl) refl

pub holds_end : (set : TaskSetData) (p nth : ℕ) → KeepsHeld set (after_end set p nth)
holds_end set p nth =
    holds_task set (after_end set p nth) p (ended_task nth) (λ t. refl) (λ t. refl) refl

pub holds_failure :
    (set : TaskSetData) (p nth : ℕ) (cause : FailureCause)
    → KeepsHeld set (after_failure set p nth cause)
holds_failure set p nth cause =
    holds_task set (after_failure set p nth cause) p (failed_task (is_counted_in set cause) nth)
    (λ t. part t (is_failure (is_counted_in set cause) nth t))
    (λ t. free t (is_failure (is_counted_in set cause) nth t)) refl
  where
    after : TaskData → Bool → TaskData
    after t b = if b then noted_task nth (ended_task nth t) else ended_task nth t

    part : (t : TaskData) (b : Bool) → (after t b).partition ≡ t.partition
    part t true = refl
    part t false = refl

    free : (t : TaskData) (b : Bool) → (after t b).denied ≡ t.denied
    free t true = refl
    free t false = refl

pub holds_success :
    (set : TaskSetData) (p : ℕ) (nth : Option ℕ) (now : ℕ)
    → KeepsHeld set (after_success set p nth now)
holds_success set p nth now =
    holds_task set (after_success set p nth now) p (succeeded_task nth) (λ t. refl) (λ t. refl)
    refl

pub holds_zombie : (set : TaskSetData) → KeepsHeld set (as_zombie set)
holds_zombie set flags held = held

pub holds_loss : (set : TaskSetData) (exec : ℕ) → KeepsHeld set (after_loss set exec)
holds_loss set exec flags held =
    All-map (IsHeldBy flags) (lost_task exec (redoes_lost set)) set.tasks
    (λ i d l. held i d l)

-- ---- the change that does

told_tasks :
    (flags : List Bool) (p : ℕ) (denied : Bool) (tasks : List TaskData)
    → AreRising (map (λ t. t.partition) tasks) → All (λ t. t.partition < length flags) tasks
    → All (IsHeldBy flags) tasks
    → All (IsHeldBy (change_at flags p (λ _. denied))) (with_task p (held_task denied) tasks)
told_tasks flags p denied [] rising within held = λ i d l. absurd (omega (arith, l))
told_tasks flags p denied (t ∷ tasks) rising within held =
    by (t.partition == p) refl
    (told_tasks flags p denied tasks
    (pairs_tail (λ q r. q < r) t.partition (map (λ s. s.partition) tasks) rising)
    (All-tail (λ s. s.partition < length flags) t tasks within)
    (All-tail (IsHeldBy flags) t tasks held))
  where
    told : List Bool
    told = change_at flags p (λ _. denied)

    above : All (λ s. t.partition < s.partition) tasks
    above = all_unmapped (λ q. t.partition < q) (λ s. s.partition) tasks
        (pairs_head (λ q r. q < r) t.partition (map (λ s. s.partition) tasks) rising)

    other : (s : TaskData) → (s.partition ≡ p → ⊥) → IsHeldBy flags s → IsHeldBy told s
    other s ne is = is ∙ sym (at_or_change_other flags p s.partition false (λ _. denied) ne)

    by : (b : Bool) → (t.partition == p) ≡ b
        → All (IsHeldBy told) (with_task p (held_task denied) tasks)
        → All (IsHeldBy told)
        (cond b (held_task denied t ∷ tasks) (t ∷ with_task p (held_task denied) tasks))
    by true e h =
        let is : t.partition ≡ p = grind (arith, nat_tests, e) in
        All-cons (IsHeldBy told) (held_task denied t) tasks
        (rw is (sym (at_or_change_same flags p false (λ _. denied)
        (subst (λ n. n < length flags) is
        (All-head (λ s. s.partition < length flags) t tasks within)))))
        (λ i d l. other (get_or tasks i d)
        (λ same. (let lt = above i d l in omega (arith, lt, same, is)))
        (All-tail (IsHeldBy flags) t tasks held i d l))
    by false e h =
        All-cons (IsHeldBy told) t (with_task p (held_task denied) tasks)
        (other t (λ same. absurd (grind (arith, nat_tests, e, same)))
        (All-head (IsHeldBy flags) t tasks held)) h

-- a set told of one partition, where its flag is changed alike
pub told_flags :
    (set : TaskSetData) (flags : List Bool) (p : ℕ) (denied : Bool)
    → AreRising (partitions_of set) → All (λ t. t.partition < length flags) set.tasks
    → AreHeldBy flags (Some set)
    → AreHeldBy (change_at flags p (λ _. denied)) (Some (after_held set p denied))
told_flags set flags p denied rising within held =
    told_tasks flags p denied set.tasks rising within held
