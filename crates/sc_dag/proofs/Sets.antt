-- What each change of a task set keeps.
use Rattle.std.proofs.Common.{◌≡◌, ℕ, ◌+◌, ◌==◌, not, Bool, true, false, if◌then◌else◌, List, [], ◌∷◌, map, Option, Some, None, option_map, refl, ap, subst, ◌∙◌, arith}
use Rattle.std.proofs.lemmas.Bool.Decides.{nat_tests}
use Rattle.sc_ids.specs.declared.failures.FailureCause.{FailureCause}
use Rattle.sc_taskset.specs.Lookups.{is_finish, is_finished, is_there_and, task_at, with_task, is_task_of}
use Rattle.sc_taskset.specs.Offers.{handed, handed_task, may_be_given}
use Rattle.sc_taskset.specs.Reports.{after_end, after_failure, after_held, after_loss, after_success, as_zombie, ended_task, failed_task, held_task, is_counted_in, is_failure, lost_task, noted_task, redoes_lost, succeeded_task}
use Rattle.sc_taskset.specs.Rows.{IsHeld, running_count}
use Rattle.sc_taskset.specs.Sound.{IsSoundSet}
use Rattle.sc_taskset.specs.TaskSetData.{TaskData, TaskSetData, partitions_of}
use Rattle.sc_taskset.proofs.ChangeLemmas.{map_kept}
use Rattle.sc_taskset.proofs.HandLemmas.{held_handed}
use Rattle.sc_taskset.proofs.LawLemmas.{task_changed, task_other}
use Rattle.sc_taskset.proofs.SetLemmas.{held_kept, held_loss, keeps_ended, keeps_failed, keeps_held}
use Rattle.sc_taskset.proofs.SuccessLemmas.{held_success}
use Rattle.sc_dag.specs.Reports.{wants_in}
use Rattle.sc_dag.specs.Sound.{finish_among, finish_in}

-- what a set becomes keeps what holds of every set
pub record KeepsSet (set after : TaskSetData) : Type 0 where
  pub sound : IsSoundSet set → IsSoundSet after
  pub kind : after.is_map ≡ set.is_map
  pub partitions : partitions_of after ≡ partitions_of set
  pub dead : set.is_zombie ≡ true → after.is_zombie ≡ true

-- and is finished where it was
pub record SameFinish (set after : TaskSetData) : Type 0 where
  pub finish : (p : ℕ) → finish_in (Some after) p ≡ finish_in (Some set) p
  pub wants : (p : ℕ) → wants_in (Some after) p ≡ wants_in (Some set) p

-- a sound set, with room for all that runs
held_by : (set : TaskSetData) → IsSoundSet set
    → IsHeld set 0 (running_count set.tasks) 0 (running_count set.tasks)
held_by set sound =
    record {
      sound = sound;
      room = record { failures_fit = omega arith; durations_fit = omega arith };
    }

-- ---- changes of one task

-- a task as some view of it, after a change that keeps the view
pub task_viewed :
    {A : Type 0} (view : Option TaskData → A) (q p : ℕ) (f : TaskData → TaskData)
    → ((t : TaskData) → (f t).partition ≡ t.partition)
    → ((t : TaskData) → view (Some (f t)) ≡ view (Some t)) → (tasks : List TaskData)
    → view (task_at p (with_task q f tasks)) ≡ view (task_at p tasks)
task_viewed view q p f same keeps tasks = by (q == p) refl
  where
    mapped : (o : Option TaskData) → view (option_map f o) ≡ view o
    mapped None = refl
    mapped (Some t) = keeps t

    by : (b : Bool) → (q == p) ≡ b
        → view (task_at p (with_task q f tasks)) ≡ view (task_at p tasks)
    by true e =
        let is : q ≡ p = grind (arith, nat_tests, e) in
        subst (λ n. view (task_at n (with_task q f tasks)) ≡ view (task_at n tasks)) is
        (ap view (task_changed q f same tasks) ∙ mapped (task_at q tasks))
    by false e = ap view (task_other q p f e same tasks)

-- a change of one task that isn't finished by it
pub same_task :
    (set : TaskSetData) (q : ℕ) (f : TaskData → TaskData)
    → ((t : TaskData) → (f t).partition ≡ t.partition)
    → ((t : TaskData) → (f t).finish ≡ t.finish)
    → SameFinish set (record set { tasks = with_task q f set.tasks })
same_task set q f same finish =
    record {
      finish = λ p. task_viewed finish_among q p f same finish set.tasks;
      wants = λ p. task_viewed (is_there_and (λ t. not (is_finished t))) q p f same
          (λ t. ap (λ x. not (is_finish x)) (finish t)) set.tasks;
    }

pub partitions_kept :
    (q : ℕ) (f : TaskData → TaskData) → ((t : TaskData) → (f t).partition ≡ t.partition)
    → (tasks : List TaskData)
    → map (λ t. t.partition) (with_task q f tasks) ≡ map (λ t. t.partition) tasks
partitions_kept q f same tasks = map_kept (λ t. t.partition) (is_task_of q) f same tasks

-- ---- the changes

pub keeps_handed :
    (set : TaskSetData) (p exec now : ℕ) → may_be_given set exec now p ≡ true
    → KeepsSet set (handed set p exec now)
keeps_handed set p exec now may =
    record {
      sound = λ s.
          (held_handed set p exec now (running_count set.tasks + 1) (running_count set.tasks + 1)
          may (omega arith) (omega arith) (held_by set s)).sound;
      kind = refl;
      partitions = partitions_kept p (handed_task exec now) (λ t. refl) set.tasks;
      dead = λ z. z;
    }

pub same_handed : (set : TaskSetData) (p exec now : ℕ) → SameFinish set (handed set p exec now)
same_handed set p exec now = same_task set p (handed_task exec now) (λ t. refl) (λ t. refl)

pub keeps_end : (set : TaskSetData) (p nth : ℕ) → KeepsSet set (after_end set p nth)
keeps_end set p nth =
    record {
      sound = λ s.
          (held_kept set p (ended_task nth) (keeps_ended nth) (held_by set s)).sound;
      kind = refl;
      partitions = partitions_kept p (ended_task nth) (λ t. refl) set.tasks;
      dead = λ z. z;
    }

pub same_end : (set : TaskSetData) (p nth : ℕ) → SameFinish set (after_end set p nth)
same_end set p nth = same_task set p (ended_task nth) (λ t. refl) (λ t. refl)

pub keeps_failure :
    (set : TaskSetData) (p nth : ℕ) (cause : FailureCause)
    → KeepsSet set (after_failure set p nth cause)
keeps_failure set p nth cause =
    record {
      sound = λ s.
          (held_kept set p (failed_task (is_counted_in set cause) nth)
          (keeps_failed (is_counted_in set cause) nth) (held_by set s)).sound;
      kind = refl;
      partitions = partitions_kept p (failed_task (is_counted_in set cause) nth)
          (keeps_failed (is_counted_in set cause) nth).partition set.tasks;
      dead = λ z. z;
    }

pub same_failure :
    (set : TaskSetData) (p nth : ℕ) (cause : FailureCause)
    → SameFinish set (after_failure set p nth cause)
same_failure set p nth cause =
    same_task set p (failed_task (is_counted_in set cause) nth)
    (keeps_failed (is_counted_in set cause) nth).partition
    (λ t. by t (is_failure (is_counted_in set cause) nth t))
  where
    by : (t : TaskData) (b : Bool)
        → (if b then noted_task nth (ended_task nth t) else ended_task nth t).finish ≡ t.finish
    by t true = refl
    by t false = refl

pub keeps_hold :
    (set : TaskSetData) (p : ℕ) (denied : Bool) → KeepsSet set (after_held set p denied)
keeps_hold set p denied =
    record {
      sound = λ s.
          (held_kept set p (held_task denied) (keeps_held denied) (held_by set s)).sound;
      kind = refl;
      partitions = partitions_kept p (held_task denied) (λ t. refl) set.tasks;
      dead = λ z. z;
    }

pub same_hold :
    (set : TaskSetData) (p : ℕ) (denied : Bool) → SameFinish set (after_held set p denied)
same_hold set p denied = same_task set p (held_task denied) (λ t. refl) (λ t. refl)

pub keeps_zombie : (set : TaskSetData) → KeepsSet set (as_zombie set)
keeps_zombie set =
    record {
      sound = λ s. record {
        rising = s.rising;
        some = s.some;
        tasks = s.tasks;
        ends = λ e. refl;
        durations = s.durations;
      };
      kind = refl;
      partitions = refl;
      dead = λ z. refl;
    }

pub same_zombie : (set : TaskSetData) → SameFinish set (as_zombie set)
same_zombie set = record { finish = λ p. refl; wants = λ p. refl }

pub keeps_success :
    (set : TaskSetData) (p : ℕ) (nth : Option ℕ) (now : ℕ)
    → KeepsSet set (after_success set p nth now)
keeps_success set p nth now =
    record {
      sound = λ s.
          (held_success set p nth now (running_count set.tasks) (omega arith)
          (held_by set s)).sound;
      kind = refl;
      partitions = partitions_kept p (succeeded_task nth) (λ t. refl) set.tasks;
      dead = λ z. rw z refl;
    }

pub keeps_loss : (set : TaskSetData) (exec : ℕ) → KeepsSet set (after_loss set exec)
keeps_loss set exec =
    record {
      sound = λ s. (held_loss set exec (held_by set s)).sound;
      kind = refl;
      partitions = parts (redoes_lost set) set.tasks;
      dead = λ z. z;
    }
  where
    parts : (redoes : Bool) (tasks : List TaskData)
        → map (λ t. t.partition) (map (lost_task exec redoes) tasks)
        ≡ map (λ t. t.partition) tasks
    parts redoes [] = refl
    parts redoes (t ∷ tasks) = ap (λ ps. t.partition ∷ ps) (parts redoes tasks)
