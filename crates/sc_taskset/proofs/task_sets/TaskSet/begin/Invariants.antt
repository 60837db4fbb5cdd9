use Rattle.std.proofs.Common.{◌≡◌, ◌-◌, length, take}
use Rattle.sc_taskset.specs.Rooms.{room_of}
use Rattle.sc_taskset.proofs.task_sets.TaskSet.begin.Given as goal

abbrev pub invariant-loop-partition : goal.invariant-loop-partition
invariant-loop-partition l =
    l.room ≡ room_of (take l.partition-index l.partitions)
    (length l.partitions - l.partition-index)
