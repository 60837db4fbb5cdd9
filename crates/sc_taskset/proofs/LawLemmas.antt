-- The account of hand-outs.
use Rattle.std.proofs.Common.{◌≡◌, ℕ, ◌+◌, ◌==◌, Bool, true, false, cond, not, ◌&&◌, ◌||◌, List, [], ◌∷◌, ◌++◌, Option, Some, None, refl, ap, ◌∙◌, arith}
use Rattle.std.specs.List.{list_any}
use Rattle.std.specs.Option.{option_map}
use Rattle.std.proofs.lemmas.Bool.Decides.{nat_tests}
use Rattle.sc_taskset.specs.declared.tasks.RunningCopy.{RunningCopy}
use Rattle.sc_taskset.specs.TaskSetData.{TaskData, TaskSetData}
use Rattle.sc_taskset.specs.Lookups.{is_there_and, is_task_of, task_at, with_task, is_finished, is_idle, is_one_elsewhere}
use Rattle.sc_taskset.specs.Offers.{Offers, given_in, given_of, handed, handed_task, is_copyable_task, is_pending_task, is_slow, may_be_given, running}
use Rattle.sc_taskset.specs.Accounting.{is_single, left_in, left_of}
use Rattle.sc_taskset.proofs.ChangeLemmas.{find_changed, find_other}

-- the task of a partition, changed
pub task_changed :
    (partition : ℕ) (f : TaskData → TaskData) → ((t : TaskData) → (f t).partition ≡ t.partition)
    → (tasks : List TaskData)
    → task_at partition (with_task partition f tasks) ≡ option_map f (task_at partition tasks)
task_changed partition f same tasks =
    find_changed (is_task_of partition) f (λ t. ap (λ p. p == partition) (same t)) tasks

-- the task of another partition stays
pub task_other :
    (partition other : ℕ) (f : TaskData → TaskData) → (partition == other) ≡ false
    → ((t : TaskData) → (f t).partition ≡ t.partition) → (tasks : List TaskData)
    → task_at other (with_task partition f tasks) ≡ task_at other tasks
task_other partition other f apart same tasks =
    find_other (is_task_of partition) (is_task_of other) f before
    (λ t is. ap (λ p. p == other) (same t) ∙ before t is) tasks
  where
    before : (t : TaskData) → is_task_of partition t ≡ true → is_task_of other t ≡ false
    before t is =
        let at : t.partition ≡ partition = grind (arith, nat_tests, is) in rw at apart

-- a task that may be handed out has one hand-out less once it is
task_account :
    (slow : RunningCopy → Bool) (exec now : ℕ) (t : TaskData) (c : Bool)
    → (is_pending_task t || (c && is_copyable_task slow exec t)) ≡ true
    → t.given + 1 + left_in (Some (handed_task exec now t)) ≡ t.given + left_in (Some t)
task_account slow exec now t c may =
    by (is_finished t) t.copies t.denied (list_any slow t.copies) may
  where
    left : Bool → List RunningCopy → Bool → ℕ
    left f copies d =
        cond (not f && (is_idle copies && not d)) 2
        (cond (not f && (is_single copies && not d)) 1 0)

    by : (f : Bool) (copies : List RunningCopy) (d w : Bool)
        → ((not f && (is_idle copies && not d))
        || (c && (not f && (is_one_elsewhere exec copies && (not d && w))))) ≡ true
        → t.given + 1 + left f (copies ++ running t.given exec now ∷ []) d
        ≡ t.given + left f copies d
    by false [] false w m = omega arith
    by false [] true w m = absurd (grind (arith, nat_tests, m))
    by true copies d w m = absurd (grind (arith, nat_tests, m))
    by false (x ∷ []) false w m = omega arith
    by false (x ∷ []) true w m = absurd (grind (arith, nat_tests, m))
    by false (x ∷ y ∷ copies) d w m = absurd (grind (arith, nat_tests, m))

-- a zombie has nothing for anyone
pub zombies_nothing :
    (s : TaskSetData) (exec now : ℕ) → s.is_zombie ≡ true → Offers s exec now None
zombies_nothing s exec now z =
    rw z (λ p. refl, λ p. none s.limits.speculation)
  where
    none : (c : Bool) → (c && false) ≡ false
    none true = refl
    none false = refl

-- a hand-out of a partition is one of those that were left of it
pub account_kept :
    (s : TaskSetData) (exec partition now : ℕ) → may_be_given s exec now partition ≡ true
    → given_of (handed s partition exec now) partition
    + left_of (handed s partition exec now) partition
    ≡ given_of s partition + left_of s partition
account_kept s exec partition now may =
    rw (task_changed partition (handed_task exec now) (λ t. refl) s.tasks)
    (by s.is_zombie (task_at partition s.tasks) may)
  where
    by : (z : Bool) (o : Option TaskData)
        → ((not z && is_there_and is_pending_task o)
        || (s.limits.speculation
        && (not z && is_there_and (is_copyable_task (is_slow s now) exec) o))) ≡ true
        → given_in (option_map (handed_task exec now) o)
        + cond z 0 (left_in (option_map (handed_task exec now) o))
        ≡ given_in o + cond z 0 (left_in o)
    by true o m = absurd (grind (arith, nat_tests, m))
    by false None m = absurd (grind (arith, nat_tests, m))
    by false (Some t) m =
        task_account (is_slow s now) exec now t s.limits.speculation m
