-- A task set as plain data.
use Rattle.std.specs.Prelude.{ℕ, Bool, false, List, [], map}
use Rattle.sc_ids.specs.declared.limits.Limits.{Limits}
use Rattle.sc_taskset.specs.declared.tasks.Finish.{Finish}
use Rattle.sc_taskset.specs.declared.tasks.Finish.TheVariants.{Unfinished}
use Rattle.sc_taskset.specs.declared.tasks.RunningCopy.{RunningCopy}

-- the task of one partition
pub record TaskData : Type 0 where
  -- its partition
  pub partition : ℕ
  -- whether a success of the partition was told, and of whom
  pub finish : Finish
  -- its attempts that run, the one handed out first in front
  pub copies : List RunningCopy
  -- how often it was handed out, which is the number of its next attempt
  pub given : ℕ
  -- the numbers of its attempts whose failures count, in the order in which they were told
  pub failures : List ℕ
  -- whether a grant that is still held has denied an attempt of the partition
  pub denied : Bool

-- the tasks of one attempt of a stage
pub record TaskSetData : Type 0 where
  -- one for each partition that was missing when the set was submitted, by rising partitions
  pub tasks : List TaskData
  -- whether they are map tasks, whose outputs go with their executors
  pub is_map : Bool
  -- whether the set hands out nothing more
  pub is_zombie : Bool
  -- how long its first successes took, in milliseconds and rising; those of its own attempts alone
  pub durations : List ℕ
  -- the limits of the run
  pub limits : Limits
  -- the tracker's epoch when the set was submitted
  pub born : ℕ

-- a task that was never handed out
abbrev pub fresh_task : ℕ → TaskData
fresh_task partition =
    record {
      partition = partition;
      finish = Unfinished;
      copies = [];
      given = 0;
      failures = [];
      denied = false;
    }

-- a set of these partitions, of which nothing was handed out
abbrev pub fresh_set : List ℕ → Bool → Limits → ℕ → TaskSetData
fresh_set partitions is_map limits born =
    record {
      tasks = map fresh_task partitions;
      is_map = is_map;
      is_zombie = false;
      durations = [];
      limits = limits;
      born = born;
    }

-- a set with other tasks
abbrev pub with_tasks : TaskSetData → List TaskData → TaskSetData
with_tasks s tasks = record s { tasks = tasks }

-- the partitions of a set
abbrev pub partitions_of : TaskSetData → List ℕ
partitions_of s = map (λ t. t.partition) s.tasks
