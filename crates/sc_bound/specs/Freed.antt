-- How often a partition is freed in a task set, and so handed out.
use Rattle.std.specs.Prelude.{ℕ, ◌+◌, ◌*◌, ◌-◌, ◌≤◌, ◌≡◌, Bool, true, List, Option, Some, None, is_some, slice_get}
use Rattle.sc_ids.specs.Graphs.{StageData}
use Rattle.sc_ids.specs.LimitRanges.{AreLimits}
use Rattle.sc_ids.specs.declared.limits.Limits.{Limits}
use Rattle.sc_plan.specs.declared.lines.PlanLine.{PlanLine}
use Rattle.sc_taskset.specs.Offers.{given_of}
use Rattle.sc_taskset.specs.TaskSetData.{TaskSetData}
use Rattle.sc_dag.specs.DagData.{DagData, StageState}
use Rattle.sc_core.specs.CoreData.{CoreData}
use Rattle.sc_core.specs.Journals.{Replays}
use Rattle.sc_core.specs.Openings.{IsOpening}
use Rattle.sc_core.specs.Sound.{IsSoundCore}
use Rattle.sc_core.specs.declared.entries.Entry.{Entry}
use Rattle.sc_bound.specs.Accounts.{times_freed}
use Rattle.sc_bound.specs.Bounds.{loses_in}
use Rattle.sc_bound.specs.Numbered.{set_at}

-- how many task sets of its stage in this job are older than the one of a number
abbrev pub older_than : Option StageState → ℕ → ℕ
older_than None number = 0
older_than (Some state) number = number - state.before

abbrev pub older_sets : DagData → ℕ → ℕ → ℕ
older_sets d stage number = older_than (slice_get d.states stage) number

-- How often a partition of a set may be freed: for each failure that is allowed, for each executor
-- that the plan loses, and for two attempts of each older set, which may give back a grant.
abbrev pub freed_bound : List PlanLine → Limits → ℕ → ℕ
freed_bound plan limits older = limits.task_failures + loses_in plan + 2 * older

-- no partition of a set is freed more often
abbrev pub FreesAreBounded : Type 0
FreesAreBounded =
    (graph : List StageData) (limits : Limits) (saves : Bool) (plan : List PlanLine)
    (last : Option CoreData) (opening end : CoreData) (entries : List Entry)
    (stage number partition : ℕ)
    → AreLimits limits → IsOpening graph limits saves plan last opening → IsSoundCore opening
    → (replays : Replays opening entries end) → is_some (set_at end.dag stage number) ≡ true
    → times_freed stage number partition opening entries end replays
    ≤ freed_bound end.plan limits (older_sets end.dag stage number)

-- so none is handed out more often than twice, and twice more for each time
abbrev pub GivenIsBounded : Type 0
GivenIsBounded =
    (graph : List StageData) (limits : Limits) (saves : Bool) (plan : List PlanLine)
    (last : Option CoreData) (opening end : CoreData) (entries : List Entry)
    (stage number partition : ℕ) (set : TaskSetData)
    → AreLimits limits → IsOpening graph limits saves plan last opening → IsSoundCore opening
    → Replays opening entries end → set_at end.dag stage number ≡ Some set
    → given_of set partition
    ≤ 2 * (1 + freed_bound end.plan limits (older_sets end.dag stage number))
