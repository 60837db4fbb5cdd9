-- When the limits of a run leave room for what its plan does to a job.
use Rattle.std.specs.Prelude.{ℕ, ◌<◌, ◌≤◌, ◌≡◌, ◌≢◌, Bool, List, None, Option, length}
use Rattle.sc_ids.specs.Graphs.{StageData}
use Rattle.sc_ids.specs.LimitRanges.{AreLimits}
use Rattle.sc_ids.specs.declared.limits.Limits.{Limits}
use Rattle.sc_plan.specs.Orders.{loss_of, planned_losses}
use Rattle.sc_plan.specs.declared.lines.PlanLine.{PlanLine}
use Rattle.sc_core.specs.CoreData.{CoreData}
use Rattle.sc_core.specs.Journals.{Replays}
use Rattle.sc_core.specs.Openings.{IsOpening}
use Rattle.sc_core.specs.Sound.{IsSoundCore}
use Rattle.sc_core.specs.declared.answers.Abort.TheVariants.{Budget, NoExecutor, StageLimit}
use Rattle.sc_core.specs.declared.answers.JobState.TheVariants as jobs
use Rattle.sc_core.specs.declared.entries.Entry.{Entry}
use Rattle.sc_bound.specs.Bounds.{hand_out_bound}
use Rattle.sc_bound.specs.Charged.{AreSeenInTime}
use Rattle.sc_bound.specs.Given.{HaveFewSets}

-- Where a plan lets outputs be forgotten fewer times than attempts of a stage may fail, none of
-- these aborts a job.
abbrev pub StageAttemptsSuffice : Type 0
StageAttemptsSuffice =
    (graph : List StageData) (limits : Limits) (saves : Bool) (plan : List PlanLine)
    (last : Option CoreData) (opening end : CoreData) (entries : List Entry) (stage : ℕ)
    → IsOpening graph limits saves plan last opening → IsSoundCore opening
    → Replays opening entries end → AreSeenInTime end
    → planned_losses end.plan < limits.stage_attempts → end.job ≢ jobs.Aborted (StageLimit stage)

-- where it has no line that loses an executor, no want of executors does
abbrev pub ExecutorsSuffice : Type 0
ExecutorsSuffice =
    (graph : List StageData) (limits : Limits) (saves : Bool) (plan : List PlanLine)
    (last : Option CoreData) (opening end : CoreData) (entries : List Entry) (exec : ℕ)
    → IsOpening graph limits saves plan last opening → IsSoundCore opening
    → Replays opening entries end → exec < length end.dag.tracker.trust
    → loss_of end.plan exec ≡ None → end.job ≢ jobs.Aborted NoExecutor

-- and where a job may hand out as many tasks as the bound, and its stages have few task sets, its
-- budget doesn't
abbrev pub BudgetsSuffice : Type 0
BudgetsSuffice =
    (graph : List StageData) (limits : Limits) (saves : Bool) (plan : List PlanLine)
    (last : Option CoreData) (opening end : CoreData) (entries : List Entry)
    → AreLimits limits → IsOpening graph limits saves plan last opening → IsSoundCore opening
    → Replays opening entries end → HaveFewSets end.plan end.dag
    → hand_out_bound graph end.plan limits ≤ limits.hand_outs → end.job ≢ jobs.Aborted Budget
