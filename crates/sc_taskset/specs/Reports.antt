-- What a task set makes of what it is told.
use Rattle.std.specs.Prelude.{ℕ, ◌+◌, ◌-◌, ◌&&◌, ◌||◌, not, Bool, true, List, [], ◌∷◌, ◌++◌, Option, Some, None, if◌then◌else◌, map, nat_le, is_some, length, unwrap_or}
use Rattle.std.specs.Option.{option_map}
use Rattle.std.specs.List.{insert, prefix_len}
use Rattle.sc_ids.specs.declared.failures.FailureCause.{FailureCause}
use Rattle.sc_ids.specs.Failures.{is_counted}
use Rattle.sc_taskset.specs.declared.tasks.Finish.{Finish}
use Rattle.sc_taskset.specs.declared.tasks.Finish.TheVariants.{Unfinished, OnExecutor, InOlderSet}
use Rattle.sc_taskset.specs.declared.tasks.RunningCopy.{RunningCopy}
use Rattle.sc_taskset.specs.TaskSetData.{TaskData, TaskSetData, with_tasks}
use Rattle.sc_taskset.specs.Lookups.{task_at, with_task, has_task_and, is_finished, is_finish_on, are_finished, copy_at, is_running, without_copy, without_exec}

-- How a success would finish a task: on the executor of its attempt, or in an older set where it
-- is none of this set's. An attempt that doesn't run here finishes nothing.
abbrev pub finish_by : Option ℕ → TaskData → Option Finish
finish_by None t = Some InOlderSet
finish_by (Some nth) t = option_map (λ c. OnExecutor c.exec) (copy_at nth t.copies)

-- a success is the first of its task
abbrev pub is_first_success : Option ℕ → TaskData → Bool
is_first_success nth t = not (is_finished t) && is_some (finish_by nth t)

-- a success of a partition is the first in a set
abbrev pub is_first : TaskSetData → ℕ → Option ℕ → Bool
is_first s partition nth = has_task_and (is_first_success nth) s partition

-- the running attempts but for the one that succeeded, which may be none of these
abbrev pub copies_left : Option ℕ → List RunningCopy → List RunningCopy
copies_left None copies = copies
copies_left (Some nth) copies = without_copy nth copies

-- a task after a success: its attempt runs no more, and the first one finishes it
abbrev pub succeeded_task : Option ℕ → TaskData → TaskData
succeeded_task nth t =
    record t {
      copies = copies_left nth t.copies;
      finish = if is_finished t then t.finish else unwrap_or (finish_by nth t) t.finish;
    }

-- how long an attempt ran: nothing where time has gone back
abbrev pub duration : ℕ → RunningCopy → ℕ
duration now c = now - c.started

-- how long a task took by a success, where it is its first and an attempt of this set
abbrev pub task_duration : Option ℕ → ℕ → TaskData → Option ℕ
task_duration None now t = None
task_duration (Some nth) now t =
    if is_finished t then None else option_map (duration now) (copy_at nth t.copies)

-- the same of a task that may be missing
abbrev pub duration_in : Option ℕ → ℕ → Option TaskData → Option ℕ
duration_in nth now None = None
duration_in nth now (Some t) = task_duration nth now t

-- rising durations with one more, behind those that are no longer
abbrev pub with_duration : Option ℕ → List ℕ → List ℕ
with_duration None durations = durations
with_duration (Some d) durations = insert durations (prefix_len (λ e. nat_le e d) durations) d

-- A set after a success of a partition, by an attempt of this number or, with none, of an older
-- set. Where all its tasks are finished now, it hands out nothing more.
abbrev pub after_success : TaskSetData → ℕ → Option ℕ → ℕ → TaskSetData
after_success s partition nth now =
    record s {
      tasks = with_task partition (succeeded_task nth) s.tasks;
      is_zombie = s.is_zombie || are_finished (with_task partition (succeeded_task nth) s.tasks);
      durations = with_duration (duration_in nth now (task_at partition s.tasks)) s.durations;
    }

-- a task after one of its attempts ended
abbrev pub ended_task : ℕ → TaskData → TaskData
ended_task nth t = record t { copies = without_copy nth t.copies }

-- a set after an attempt ended that changes nothing else
abbrev pub after_end : TaskSetData → ℕ → ℕ → TaskSetData
after_end s partition nth = with_tasks s (with_task partition (ended_task nth) s.tasks)

-- failures of this cause count in a set: not once it is a zombie
abbrev pub is_counted_in : TaskSetData → FailureCause → Bool
is_counted_in s cause = is_counted cause && not s.is_zombie

-- the failure of an attempt counts, if failures of its cause do: the attempt runs
abbrev pub is_failure : Bool → ℕ → TaskData → Bool
is_failure counts nth t = counts && is_running nth t.copies

-- a task with one more counted failure
abbrev pub noted_task : ℕ → TaskData → TaskData
noted_task nth t = record t { failures = t.failures ++ nth ∷ [] }

-- a task after one of its attempts failed: it runs no more, and its failure may count
abbrev pub failed_task : Bool → ℕ → TaskData → TaskData
failed_task counts nth t =
    if is_failure counts nth t then noted_task nth (ended_task nth t) else ended_task nth t

-- a set after an attempt failed
abbrev pub after_failure : TaskSetData → ℕ → ℕ → FailureCause → TaskSetData
after_failure s partition nth cause =
    with_tasks s (with_task partition (failed_task (is_counted_in s cause) nth) s.tasks)

-- a failure counts, and is the last one that is allowed
abbrev pub is_last_failure : ℕ → Bool → ℕ → TaskData → Bool
is_last_failure limit counts nth t =
    is_failure counts nth t && nat_le limit (length t.failures + 1)

-- a failure brings a partition to the limit of failures
abbrev pub reaches_limit : TaskSetData → ℕ → ℕ → FailureCause → Bool
reaches_limit s partition nth cause =
    has_task_and (is_last_failure s.limits.task_failures (is_counted_in s cause) nth) s partition

-- a task of which a held grant has denied an attempt, or no longer has
abbrev pub held_task : Bool → TaskData → TaskData
held_task denied t = record t { denied = denied }

-- a set that was told whether a held grant has denied an attempt of a partition
abbrev pub after_held : TaskSetData → ℕ → Bool → TaskSetData
after_held s partition denied =
    with_tasks s (with_task partition (held_task denied) s.tasks)

-- A task after an executor was lost: what ran there runs no more, and what was finished there is
-- to be done again, where it is of use.
abbrev pub lost_task : ℕ → Bool → TaskData → TaskData
lost_task exec redoes t =
    record t {
      copies = without_exec exec t.copies;
      finish = if redoes && is_finish_on exec t.finish then Unfinished else t.finish;
    }

-- outputs lost with an executor are made again by a set: by one of map tasks that is no zombie
abbrev pub redoes_lost : TaskSetData → Bool
redoes_lost s = s.is_map && not s.is_zombie

-- a set after an executor was lost
abbrev pub after_loss : TaskSetData → ℕ → TaskSetData
after_loss s exec = with_tasks s (map (lost_task exec (redoes_lost s)) s.tasks)

-- a set that hands out nothing more
abbrev pub as_zombie : TaskSetData → TaskSetData
as_zombie s = record s { is_zombie = true }
