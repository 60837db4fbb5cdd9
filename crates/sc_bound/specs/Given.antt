-- When a job has handed out no more tasks than the bound.
use Rattle.std.specs.Prelude.{◌+◌, ◌*◌, ◌≤◌, All, Bool, List, Option, length}
use Rattle.sc_ids.specs.Graphs.{StageData}
use Rattle.sc_ids.specs.LimitRanges.{AreLimits}
use Rattle.sc_ids.specs.declared.limits.Limits.{Limits}
use Rattle.sc_plan.specs.Orders.{planned_losses}
use Rattle.sc_plan.specs.declared.lines.PlanLine.{PlanLine}
use Rattle.sc_dag.specs.DagData.{DagData}
use Rattle.sc_core.specs.CoreData.{CoreData}
use Rattle.sc_core.specs.Journals.{Replays}
use Rattle.sc_core.specs.Openings.{IsOpening}
use Rattle.sc_core.specs.Sound.{IsSoundCore}
use Rattle.sc_core.specs.declared.entries.Entry.{Entry}
use Rattle.sc_bound.specs.Bounds.{hand_out_bound}

-- no stage has more task sets in this job than one, and two for each planned loss
abbrev pub HaveFewSets : List PlanLine → DagData → Type 0
HaveFewSets plan d =
    All (λ state. length state.attempts ≤ 1 + 2 * planned_losses plan) d.states

-- where they are as few at a journal's end, the job has handed out no more tasks than the bound
abbrev pub BoundsAreKept : Type 0
BoundsAreKept =
    (graph : List StageData) (limits : Limits) (saves : Bool) (plan : List PlanLine)
    (last : Option CoreData) (opening end : CoreData) (entries : List Entry)
    → AreLimits limits → IsOpening graph limits saves plan last opening → IsSoundCore opening
    → Replays opening entries end → HaveFewSets end.plan end.dag
    → end.handed ≤ hand_out_bound graph end.plan limits
