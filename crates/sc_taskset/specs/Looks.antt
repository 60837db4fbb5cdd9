-- How many steps a call takes that looks at some tasks alone.
use Rattle.std.specs.Prelude.{ℕ, ◌+◌, ◌/◌, ◌==◌, ◌&&◌, ◌||◌, not, Bool, length, count_by}
use Rattle.std.specs.List.{list_any}
use Rattle.sc_taskset.specs.declared.tasks.RunningCopy.{RunningCopy}
use Rattle.sc_taskset.specs.Accounting.{is_single}
use Rattle.sc_taskset.specs.Lookups.{is_finish_on, is_finished}
use Rattle.sc_taskset.specs.TaskSetData.{TaskData, TaskSetData}

-- how many words of 64 so many flags take
abbrev pub words_for : ℕ → ℕ
words_for many = (many + 63) / 64

-- a task isn't finished, one attempt of it runs alone, and no grant still held has denied one
abbrev pub is_single_task : TaskData → Bool
is_single_task t = not (is_finished t) && (is_single t.copies && not t.denied)

-- how many words of flags the tasks of a set take
abbrev pub word_count : TaskSetData → ℕ
word_count s = words_for (length s.tasks)

-- of how many tasks of a set one attempt runs alone, that aren't finished nor denied
abbrev pub single_count : TaskSetData → ℕ
single_count s = count_by is_single_task s.tasks

-- an attempt runs on this executor
abbrev pub is_copy_on : ℕ → RunningCopy → Bool
is_copy_on exec c = c.exec == exec

-- a task was finished on this executor, or an attempt of it runs there
abbrev pub is_task_on : ℕ → TaskData → Bool
is_task_on exec t = is_finish_on exec t.finish || list_any (is_copy_on exec) t.copies

-- how many tasks of a set were finished on an executor, or have an attempt that runs there
abbrev pub count_on : TaskSetData → ℕ → ℕ
count_on s exec = count_by (is_task_on exec) s.tasks
