-- The law of a task that raises: what its job is for never has an outcome.
use Rattle.std.specs.Prelude.{ℕ, ◌≡◌, List, Some}
use Rattle.sc_expr.specs.declared.exprs.Raise.{Raise}
use Rattle.sc_ids.specs.Graphs.{StageData}
use Rattle.sc_jobs.specs.JobData.{HasTask, IsGoal, goal_action, goal_node, job_data, target_of}
use Rattle.sc_jobs.specs.declared.goals.Goal.{Goal}
use Rattle.sc_jobs.specs.declared.goals.Goal.TheVariants as goals
use Rattle.sc_lineage.specs.Actions.{action_outcome, never}
use Rattle.sc_lineage.specs.ScriptData.{WorkData, IsSoundScript}
use Rattle.sc_lineage.specs.Targets.{own_value}
use Rattle.sc_stagecut.specs.Carrying.{CarriedData, IsCarriedFor}
use Rattle.sc_stagecut.specs.Cuts.{IsCut}
use Rattle.sc_stagecut.specs.Reaching.{IsReached}

-- A job for a goal serves an action: its own, or where it finds the bounds of a sort each one whose
-- node reads the sort.
abbrev pub Serves : WorkData → Goal → ℕ → Type 0
Serves work (goals.Action number) k = number ≡ k
Serves work (goals.Bounds sort) k =
    IsReached work.script.nodes (goal_node work (goals.Action k)) sort

-- a goal is without a value
pub record IsWithoutValue (work : WorkData) (goal : Goal) : Type 0 where
  -- what is done with the goal's node never has an outcome
  pub own : action_outcome work (goal_action work goal) ≡ never
  -- nor has any action that the job serves
  pub served :
      (k : ℕ) → Serves work goal k
      → action_outcome work (goal_action work (goals.Action k)) ≡ never

-- a raise of what a task of a job is to compute leaves the job's goal without a value
abbrev pub RaisesLeaveNoValue : Type 0
RaisesLeaveNoValue =
    (work : WorkData) (carried : CarriedData) (goal : Goal) (graph : List StageData)
    (stage partition : ℕ) (r : Raise)
    → IsSoundScript work.script → IsCarriedFor work.script.nodes carried → IsGoal work goal
    → IsCut work carried (goal_node work goal) graph → HasTask graph stage partition
    → (own_value work (target_of work (job_data goal graph) stage partition)).raise ≡ Some r
    → IsWithoutValue work goal
