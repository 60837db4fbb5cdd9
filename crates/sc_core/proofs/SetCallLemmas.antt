-- What the calls of a task set do to the attempts that run in it.
use Rattle.std.proofs.Common.{◌≡◌, ℕ, ◌+◌, ◌<◌, ◌==◌, nat_lt, All, Bool, true, false, cond, if◌then◌else◌, List, [], ◌∷◌, Some, None, refl, arith}
use Rattle.std.proofs.lemmas.Bool.Decides.{nat_tests}
use Rattle.sc_base.specs.Lists.{at_or}
use Rattle.sc_ids.specs.declared.attempts.AttemptId.{AttemptId}
use Rattle.sc_ids.specs.declared.failures.FailureCause.{FailureCause}
use Rattle.sc_ids.specs.declared.limits.Limits.{Limits}
use Rattle.sc_taskset.specs.Lookups.{task_at, without_copy}
use Rattle.sc_taskset.specs.Offers.{handed, handed_task}
use Rattle.sc_taskset.specs.Reports.{after_end, after_failure, after_held, after_success, as_zombie, ended_task, failed_task, held_task, is_counted_in, is_failure, noted_task, succeeded_task}
use Rattle.sc_taskset.specs.TaskSetData.{TaskData, TaskSetData, fresh_set, fresh_task}
use Rattle.sc_dag.specs.Sound.{runner_among, runner_in}
use Rattle.sc_dag.specs.Submission.{held_by}
use Rattle.sc_core.specs.Sound.{given_among}
use Rattle.sc_core.proofs.SetLemmas.{MovesIn, calm_task, changed_task, ends_task, find_push, is_copy_of, nothing}

-- ---- the calls

pub success_ends : (set : TaskSetData) (a : AttemptId) (now : ℕ)
    → MovesIn (is_copy_of a) None set (after_success set a.partition (Some a.nth) now)
success_ends set a now =
    ends_task a (succeeded_task (Some a.nth)) set
    (after_success set a.partition (Some a.nth) now)
    (λ t. refl) (λ t. refl) (λ t m h. h) refl

pub success_calm : (set : TaskSetData) (p now : ℕ)
    → MovesIn nothing None set (after_success set p None now)
success_calm set p now =
    calm_task p (succeeded_task None) set (after_success set p None now)
    (λ t. refl) (λ t. refl) (λ t m h. h) refl

pub end_ends : (set : TaskSetData) (a : AttemptId)
    → MovesIn (is_copy_of a) None set (after_end set a.partition a.nth)
end_ends set a =
    ends_task a (ended_task a.nth) set (after_end set a.partition a.nth)
    (λ t. refl) (λ t. refl) (λ t m h. h) refl

pub failure_ends : (set : TaskSetData) (a : AttemptId) (cause : FailureCause)
    → MovesIn (is_copy_of a) None set (after_failure set a.partition a.nth cause)
failure_ends set a cause =
    ends_task a (failed_task (is_counted_in set cause) a.nth) set
    (after_failure set a.partition a.nth cause)
    (λ t. part t (is_failure (is_counted_in set cause) a.nth t))
    (λ t. left t (is_failure (is_counted_in set cause) a.nth t))
    (λ t m h. given t m (is_failure (is_counted_in set cause) a.nth t) h) refl
  where
    after : TaskData → Bool → TaskData
    after t b = if b then noted_task a.nth (ended_task a.nth t) else ended_task a.nth t

    part : (t : TaskData) (b : Bool) → (after t b).partition ≡ t.partition
    part t true = refl
    part t false = refl

    left : (t : TaskData) (b : Bool) → (after t b).copies ≡ without_copy a.nth t.copies
    left t true = refl
    left t false = refl

    given : (t : TaskData) (m : ℕ) (b : Bool) → given_among (Some t) m ≡ true
        → given_among (Some (after t b)) m ≡ true
    given t m true h = h
    given t m false h = h

pub hold_calm : (set : TaskSetData) (p : ℕ) (denied : Bool)
    → MovesIn nothing None set (after_held set p denied)
hold_calm set p denied =
    calm_task p (held_task denied) set (after_held set p denied)
    (λ t. refl) (λ t. refl) (λ t m h. h) refl

pub zombie_calm : (set : TaskSetData) → MovesIn nothing None set (as_zombie set)
zombie_calm set = record { runners = λ b. refl; given = λ b h. h }

-- a hand-out of a task that is there, under its next number
pub handed_moves : (set : TaskSetData) (a : AttemptId) (t : TaskData) (exec now : ℕ)
    → task_at a.partition set.tasks ≡ Some t → a.nth ≡ t.given
    → All (λ c. c.nth < t.given) t.copies
    → MovesIn (is_copy_of a) (Some exec) set (handed set a.partition exec now)
handed_moves set a t exec now found nth below =
    changed_task a (Some exec) (handed_task exec now) set (handed set a.partition exec now)
    (λ u. refl)
    (λ m. rw (found, nth) (find_push t.given exec now m t.copies below))
    (λ u m h. more u.given m h) refl
  where
    more : (given m : ℕ) → nat_lt m given ≡ true → nat_lt m (given + 1) ≡ true
    more given m h = grind (arith, nat_tests, h)

-- nothing runs in a fresh set, whatever is held back of it
pub fresh_runs :
    (held : List Bool) (partitions : List ℕ) (is_map : Bool) (limits : Limits) (born : ℕ)
    (b : AttemptId)
    → runner_in (Some (held_by held (fresh_set partitions is_map limits born))) b ≡ None
fresh_runs held [] is_map limits born b = refl
fresh_runs held (p ∷ ps) is_map limits born b =
    by (p == b.partition) (fresh_runs held ps is_map limits born b)
  where
    by : (x : Bool)
        → runner_in (Some (held_by held (fresh_set ps is_map limits born))) b ≡ None
        → runner_among (cond x (Some (held_task (at_or held p false) (fresh_task p)))
        (task_at b.partition (held_by held (fresh_set ps is_map limits born)).tasks)) b.nth ≡ None
    by true h = refl
    by false h = h
