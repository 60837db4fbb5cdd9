-- Runs that survive their fault plan.
use Rattle.std.specs.Prelude.{ℕ, ◌<◌, ◌≡◌, ◌⊎◌, None}
use Rattle.std.specs.List.{All}
use Rattle.sc_core.specs.declared.answers.Abort.TheVariants as aborts
use Rattle.sc_lineage.specs.Actions.{HasText}
use Rattle.sc_lineage.specs.ScriptData.{WorkData}
use Rattle.sc_plan.specs.Orders.{loss_of, planned_losses}
use Rattle.sc_context.specs.Aborts.{planned_failures}
use Rattle.sc_app.specs.declared.ran.Status.{Status}
use Rattle.sc_app.specs.declared.ran.Status.TheVariants as statuses

-- a work that its plan leaves room for, within its limits
pub record IsSurvivable (work : WorkData) : Type 0 where
  -- each action has a text, so no partition raises, and the driver has no fault
  pub texts : All (HasText work) work.script.actions
  -- outputs are forgotten fewer times than attempts of a stage may fail: once for each `drop` line,
  -- and twice for each `lose` line
  pub losses : planned_losses work.plan < work.limits.stage_attempts
  -- of each partition of a stage fewer attempts fail by the plan than may
  pub failures : (stage partition : ℕ)
      → planned_failures work.plan stage partition < work.limits.task_failures
  -- and an executor has no `lose` line
  pub spared : ℕ
  pub among : spared < work.limits.executors
  pub not_lost : loss_of work.plan spared ≡ None

-- the run is done, or memory ran out, or a job has handed out as many tasks as it may
abbrev pub Survives : Status → Type 0
Survives status =
    (status ≡ statuses.Done)
    ⊎ ((status ≡ statuses.OutOfMemory) ⊎ (status ≡ statuses.Aborted aborts.Budget))
