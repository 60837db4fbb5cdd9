-- How a task set holds its tasks: rows of fixed size, and one list of failures.
use Rattle.std.specs.Prelude.{ℕ, ◌≤◌, ◌+◌, ◌==◌, Bool, List, [], ◌∷◌, ◌++◌, map, length, Option, None, if◌then◌else◌}
use Rattle.std.specs.Option.{option_to_list, option_or}
use Rattle.std.specs.List.{filter, find}
use Rattle.sc_ids.specs.declared.limits.Limits.{Limits}
use Rattle.sc_taskset.specs.declared.tasks.RunningCopy.{RunningCopy}
use Rattle.sc_taskset.specs.declared.rows.Row.{Row}
use Rattle.sc_taskset.specs.declared.rows.Failure.{Failure}
use Rattle.sc_taskset.specs.TaskSetData.{TaskData, TaskSetData}
use Rattle.sc_taskset.specs.Offers.{is_pending_task, is_copyable_task}
use Rattle.sc_taskset.specs.Sound.{IsSoundSet}

-- the running attempts of a row
abbrev pub copies_of : Row → List RunningCopy
copies_of r = option_to_list r.first ++ option_to_list r.second

-- a failure is of this partition
abbrev pub is_failure_of : ℕ → Failure → Bool
is_failure_of partition f = f.partition == partition

-- the numbers of the failed attempts of a partition
abbrev pub failures_of : ℕ → List Failure → List ℕ
failures_of partition failures = map (λ f. f.nth) (filter (is_failure_of partition) failures)

-- the task of a row
abbrev pub task_of : List Failure → Row → TaskData
task_of failures r =
    record {
      partition = r.partition;
      finish = r.finish;
      copies = copies_of r;
      given = r.given;
      failures = failures_of r.partition failures;
      denied = r.denied;
    }

-- the tasks of rows
abbrev pub tasks_of : List Failure → List Row → List TaskData
tasks_of failures rows = map (task_of failures) rows

-- some failures with one more, if it counts
abbrev pub noted : Bool → ℕ → ℕ → List Failure → List Failure
noted counts partition nth failures =
    if counts then failures ++ record { partition = partition; nth = nth } ∷ [] else failures

-- the set that rows, failures and durations hold
abbrev pub set_of : List Row → List Failure → List ℕ → Bool → Bool → Limits → ℕ → TaskSetData
set_of rows failures durations is_map is_zombie limits born =
    record {
      tasks = tasks_of failures rows;
      is_map = is_map;
      is_zombie = is_zombie;
      durations = durations;
      limits = limits;
      born = born;
    }

-- how many attempts of some tasks run
abbrev pub running_count : List TaskData → ℕ
running_count [] = 0
running_count (t ∷ tasks) = length t.copies + running_count tasks

-- A set has room for one more failure and one more duration of each running attempt, where its
-- lists have these lengths and these capacities.
pub record HasRoom (tasks : List TaskData) (failed taken timed kept : ℕ) : Type 0 where
  pub failures_fit : failed + running_count tasks ≤ taken
  pub durations_fit : timed + running_count tasks ≤ kept

-- a row is of this partition
abbrev pub is_row_of : ℕ → Row → Bool
is_row_of partition r = r.partition == partition

-- The first task of some that is there for an executor: the first pending one, or else the first
-- copyable one.
abbrev pub offered_task :
    Bool → Bool → (RunningCopy → Bool) → ℕ → List TaskData → Option TaskData
offered_task is_zombie speculation slow exec tasks =
    if is_zombie then None else
    option_or (find is_pending_task tasks)
    (if speculation then find (is_copyable_task slow exec) tasks else None)

-- a set is sound, and has room for what its running attempts may leave
pub record IsHeld (s : TaskSetData) (failed taken timed kept : ℕ) : Type 0 where
  pub sound : IsSoundSet s
  pub room : HasRoom s.tasks failed taken timed kept
