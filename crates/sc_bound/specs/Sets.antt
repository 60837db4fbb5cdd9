-- Whether a task set hands out a partition.
use Rattle.std.specs.Prelude.{ℕ, ◌&&◌, not, Bool, false, Option, Some, None}
use Rattle.sc_taskset.specs.Lookups.{is_finished, task_at}
use Rattle.sc_taskset.specs.TaskSetData.{TaskData, TaskSetData}

-- a task isn't finished, and no held grant has denied an attempt of it
abbrev pub is_wanted_task : Option TaskData → Bool
is_wanted_task None = false
is_wanted_task (Some t) = not (is_finished t) && not t.denied

-- a set that may be there hands a partition out, now or once an attempt of it has ended
abbrev pub is_open : Option TaskSetData → ℕ → Bool
is_open None partition = false
is_open (Some set) partition = not set.is_zombie && is_wanted_task (task_at partition set.tasks)
