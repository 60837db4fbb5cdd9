-- Tasks by their partitions, and attempts by their numbers.
use Rattle.std.specs.Prelude.{ℕ, Bool, true, false, List, [], ◌∷◌, Option, Some, None, if◌then◌else◌, ◌==◌, not}
use Rattle.std.specs.List.{find, filter, list_any, list_all}
use Rattle.sc_taskset.specs.declared.tasks.Finish.{Finish}
use Rattle.sc_taskset.specs.declared.tasks.Finish.TheVariants.{Unfinished, OnExecutor, InOlderSet}
use Rattle.sc_taskset.specs.declared.tasks.RunningCopy.{RunningCopy}
use Rattle.sc_taskset.specs.TaskSetData.{TaskData, TaskSetData}

-- a list with the first element that passes a test changed
abbrev pub change_first : {A : Type 0} → (A → Bool) → (A → A) → List A → List A
change_first test change [] = []
change_first test change (x ∷ xs) =
    if test x then change x ∷ xs else x ∷ change_first test change xs

-- whether there is something that passes a test
abbrev pub is_there_and : {A : Type 0} → (A → Bool) → Option A → Bool
is_there_and test None = false
is_there_and test (Some x) = test x

-- a task is of this partition
abbrev pub is_task_of : ℕ → TaskData → Bool
is_task_of partition t = t.partition == partition

-- the task of a partition, where there is one
abbrev pub task_at : ℕ → List TaskData → Option TaskData
task_at partition tasks = find (is_task_of partition) tasks

-- some tasks with the one of a partition changed, where there is one
abbrev pub with_task : ℕ → (TaskData → TaskData) → List TaskData → List TaskData
with_task partition change tasks = change_first (is_task_of partition) change tasks

-- whether a set has a task of this partition that passes a test
abbrev pub has_task_and : (TaskData → Bool) → TaskSetData → ℕ → Bool
has_task_and test s partition = is_there_and test (task_at partition s.tasks)

-- a success of the partition was told
abbrev pub is_finish : Finish → Bool
is_finish Unfinished = false
is_finish (OnExecutor exec) = true
is_finish InOlderSet = true

-- a success of the task's partition was told
abbrev pub is_finished : TaskData → Bool
is_finished t = is_finish t.finish

-- the task was finished by an attempt of its set on this executor
abbrev pub is_finish_on : ℕ → Finish → Bool
is_finish_on exec Unfinished = false
is_finish_on exec (OnExecutor by) = by == exec
is_finish_on exec InOlderSet = false

-- all tasks are finished
abbrev pub are_finished : List TaskData → Bool
are_finished tasks = list_all is_finished tasks

-- an attempt has this number
abbrev pub is_nth : ℕ → RunningCopy → Bool
is_nth nth c = c.nth == nth

-- the running attempt of a number, where there is one
abbrev pub copy_at : ℕ → List RunningCopy → Option RunningCopy
copy_at nth copies = find (is_nth nth) copies

-- an attempt of this number runs
abbrev pub is_running : ℕ → List RunningCopy → Bool
is_running nth copies = list_any (is_nth nth) copies

-- the running attempts but for the one of a number
abbrev pub without_copy : ℕ → List RunningCopy → List RunningCopy
without_copy nth copies = filter (λ c. not (is_nth nth c)) copies

-- the running attempts but for those on an executor
abbrev pub without_exec : ℕ → List RunningCopy → List RunningCopy
without_exec exec copies = filter (λ c. not (c.exec == exec)) copies

-- nothing runs
abbrev pub is_idle : List RunningCopy → Bool
is_idle [] = true
is_idle (c ∷ copies) = false

-- exactly one attempt runs, on another executor than this one
abbrev pub is_one_elsewhere : ℕ → List RunningCopy → Bool
is_one_elsewhere exec [] = false
is_one_elsewhere exec (c ∷ []) = not (c.exec == exec)
is_one_elsewhere exec (c ∷ d ∷ copies) = false
