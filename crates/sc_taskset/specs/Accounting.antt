-- How many hand-outs a set may still make until it is told something.
use Rattle.std.specs.Prelude.{ℕ, ◌&&◌, not, Bool, true, false, List, [], ◌∷◌, Option, Some, None, if◌then◌else◌}
use Rattle.sc_taskset.specs.declared.tasks.RunningCopy.{RunningCopy}
use Rattle.sc_taskset.specs.TaskSetData.{TaskData, TaskSetData}
use Rattle.sc_taskset.specs.Lookups.{task_at, is_finished}
use Rattle.sc_taskset.specs.Offers.{is_pending_task}

-- exactly one attempt runs
abbrev pub is_single : List RunningCopy → Bool
is_single [] = false
is_single (c ∷ []) = true
is_single (c ∷ d ∷ copies) = false

-- two where a task is pending, one where a copy of it may still be handed out
abbrev pub left_in : Option TaskData → ℕ
left_in None = 0
left_in (Some t) =
    if is_pending_task t then 2 else
    if not (is_finished t) && (is_single t.copies && not t.denied) then 1 else 0

-- how many hand-outs of a partition a set has left: none in a zombie
abbrev pub left_of : TaskSetData → ℕ → ℕ
left_of s partition = if s.is_zombie then 0 else left_in (task_at partition s.tasks)
