-- The laws of lost executors: none is told lost but by the plan.
use Rattle.std.specs.Prelude.{ℕ, ◌<◌, ◌≡◌, true, false, List, [], None, length}
use Rattle.sc_core.specs.CoreData.{CoreData}
use Rattle.sc_core.specs.Losses.{is_due_after}
use Rattle.sc_core.specs.Sound.{IsSoundCore}
use Rattle.sc_plan.specs.Orders.{loss_of}
use Rattle.sc_plan.specs.declared.lines.PlanLine.{PlanLine}
use Rattle.sc_tracker.specs.Trust.{are_lost}
use Rattle.sc_tracker.specs.TrackerData.{trust_of}

-- an executor was told lost, as a plan says
pub record IsLostBy (plan : List PlanLine) (end : CoreData) (exec : ℕ) : Type 0 where
  pub lost : (trust_of end.dag.tracker exec).lost ≡ true
  -- the plan loses it, and as many reports were told as come before that
  pub due : is_due_after (loss_of plan exec) end.told ≡ true

-- where every executor was told lost, a plan loses each of them
abbrev pub PlannedLossesAlone : Type 0
PlannedLossesAlone =
    (plan : List PlanLine) (end : CoreData) (exec : ℕ) → IsSoundCore end → end.plan ≡ plan
    → are_lost end.dag.tracker.trust ≡ true → exec < length end.dag.tracker.trust
    → IsLostBy plan end exec

-- a plan without lines loses no executor, so where there is one not all are lost
pub record EmptyPlansLoseNone : Type 0 where
  pub none : (exec : ℕ) → loss_of [] exec ≡ None
  pub left :
      (end : CoreData) → IsSoundCore end → end.plan ≡ [] → 0 < length end.dag.tracker.trust
      → are_lost end.dag.tracker.trust ≡ false
