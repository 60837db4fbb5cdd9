-- What a task set hands out.
use Rattle.std.specs.Prelude.{ℕ, ◌+◌, ◌<◌, ◌≡◌, ◌⊎◌, ◌&&◌, ◌||◌, not, Bool, true, false, List, [], ◌∷◌, ◌++◌, Option, Some, None, length}
use Rattle.std.specs.List.{list_any}
use Rattle.sc_spec.specs.Speculation.{is_speculatable}
use Rattle.sc_taskset.specs.declared.tasks.GivenTask.{GivenTask}
use Rattle.sc_taskset.specs.declared.tasks.RunningCopy.{RunningCopy}
use Rattle.sc_taskset.specs.TaskSetData.{TaskData, TaskSetData, with_tasks}
use Rattle.sc_taskset.specs.Lookups.{task_at, with_task, has_task_and, is_finished, is_idle, is_one_elsewhere}

-- a task isn't finished, no attempt of it runs, and no grant still held has denied one
abbrev pub is_pending_task : TaskData → Bool
is_pending_task t = not (is_finished t) && (is_idle t.copies && not t.denied)

-- a partition is pending: the set hands out, and its task is to be handed out
abbrev pub is_pending : TaskSetData → ℕ → Bool
is_pending s partition = not s.is_zombie && has_task_and is_pending_task s partition

-- A running attempt is so slow at this time that a second one is worth its while, by how long the
-- successes of its set took, and how many tasks the set has.
abbrev pub slow_by : List ℕ → ℕ → ℕ → RunningCopy → Bool
slow_by durations tasks now c = is_speculatable durations tasks c.started now

abbrev pub is_slow : TaskSetData → ℕ → RunningCopy → Bool
is_slow s now = slow_by s.durations (length s.tasks) now

-- a second attempt of a task may run on this executor, beside the slow one that runs elsewhere
abbrev pub is_copyable_task : (RunningCopy → Bool) → ℕ → TaskData → Bool
is_copyable_task slow exec t =
    not (is_finished t)
    && (is_one_elsewhere exec t.copies && (not t.denied && list_any slow t.copies))

-- a partition may be copied on this executor at this time
abbrev pub is_copyable : TaskSetData → ℕ → ℕ → ℕ → Bool
is_copyable s exec now partition =
    s.limits.speculation
    && (not s.is_zombie && has_task_and (is_copyable_task (is_slow s now) exec) s partition)

-- a partition may be handed out to this executor at this time
abbrev pub may_be_given : TaskSetData → ℕ → ℕ → ℕ → Bool
may_be_given s exec now partition = is_pending s partition || is_copyable s exec now partition

-- no partition passes a test
abbrev pub IsNever : (ℕ → Bool) → Type 0
IsNever test = (partition : ℕ) → test partition ≡ false

-- the smallest partition that passes a test
pub record IsSmallest (test : ℕ → Bool) (partition : ℕ) : Type 0 where
  pub passes : test partition ≡ true
  pub smallest : (other : ℕ) → other < partition → test other ≡ false

-- the partition that comes next: the smallest pending one, or the smallest copyable one where
-- nothing is pending
abbrev pub IsNext : TaskSetData → ℕ → ℕ → ℕ → Type 0
IsNext s exec now partition =
    IsSmallest (is_pending s) partition
    ⊎ (IsNever (is_pending s) × IsSmallest (is_copyable s exec now) partition)

-- how often a task was handed out, where there is one
abbrev pub given_in : Option TaskData → ℕ
given_in None = 0
given_in (Some t) = t.given

-- how often a partition was handed out in a set
abbrev pub given_of : TaskSetData → ℕ → ℕ
given_of s partition = given_in (task_at partition s.tasks)

-- What a set has for an executor at this time: nothing exactly where nothing is pending and nothing
-- copyable.
abbrev pub Offers : TaskSetData → ℕ → ℕ → Option GivenTask → Type 0
Offers s exec now None = IsNever (is_pending s) × IsNever (is_copyable s exec now)
Offers s exec now (Some g) = IsNext s exec now g.partition × (g.nth ≡ given_of s g.partition)

-- a running attempt
abbrev pub running : ℕ → ℕ → ℕ → RunningCopy
running nth exec started = record { nth = nth; exec = exec; started = started }

-- a task with one more attempt, which runs on this executor from now on
abbrev pub handed_task : ℕ → ℕ → TaskData → TaskData
handed_task exec now t =
    record t { copies = t.copies ++ running t.given exec now ∷ []; given = t.given + 1 }

-- a set with a partition handed out to an executor
abbrev pub handed : TaskSetData → ℕ → ℕ → ℕ → TaskSetData
handed s partition exec now = with_tasks s (with_task partition (handed_task exec now) s.tasks)
