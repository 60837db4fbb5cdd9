-- How many tasks a job hands out at most.
use Rattle.std.specs.Prelude.{ℕ, ◌+◌, ◌*◌, List, filter, length}
use Rattle.std.specs.List.{sum_by}
use Rattle.sc_ids.specs.Graphs.{StageData}
use Rattle.sc_ids.specs.declared.limits.Limits.{Limits}
use Rattle.sc_plan.specs.Orders.{is_lose, planned_losses}
use Rattle.sc_plan.specs.declared.lines.PlanLine.{PlanLine}

-- how many executors a plan loses
abbrev pub loses_in : List PlanLine → ℕ
loses_in plan = length (filter is_lose plan)

-- how often a task set hands out one of its tasks
abbrev pub set_bound : List PlanLine → Limits → ℕ
set_bound plan limits =
    2 * (limits.task_failures + 2 * loses_in plan + 2 * planned_losses plan + 1)

-- how often a task is handed out in all attempts of its stage
abbrev pub task_bound : List PlanLine → Limits → ℕ
task_bound plan limits = (1 + 2 * planned_losses plan) * set_bound plan limits

-- how many tasks a job with these stages hands out
abbrev pub hand_out_bound : List StageData → List PlanLine → Limits → ℕ
hand_out_bound graph plan limits =
    sum_by (λ (stage : StageData). stage.tasks * task_bound plan limits) graph
