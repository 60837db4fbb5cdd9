-- How often outputs may be forgotten, as a plan says.
use Rattle.std.specs.Prelude.{ℕ, ◌≤◌, ◌≡◌, ◌≢◌, true, None, List, count_by, length}
use Rattle.sc_plan.specs.Orders.{loss_of, planned_losses, wipes_of}
use Rattle.sc_plan.specs.declared.lines.PlanLine.{PlanLine}
use Rattle.sc_tracker.specs.TrackerData.{TrackerData, trust_of}
use Rattle.sc_tracker.specs.TrackerFacts.{IsSoundTracker}
use Rattle.sc_bound.specs.Bounds.{loses_in}

-- What was heard of executors comes from a plan: a generation that was seen is one of its wipes,
-- and who was told lost has a line.
pub record IsHeardAsPlanned (plan : List PlanLine) (t : TrackerData) : Type 0 where
  pub seen : (exec : ℕ) → (trust_of t exec).seen ≤ length (wipes_of plan exec)
  pub lost : (exec : ℕ) → (trust_of t exec).lost ≡ true → loss_of plan exec ≢ None

-- how many executors were told lost
abbrev pub lost_count : TrackerData → ℕ
lost_count t = count_by (λ heard. heard.lost) t.trust

-- then no more executors are lost than the plan loses
abbrev pub LossesArePlanned : Type 0
LossesArePlanned =
    (plan : List PlanLine) (t : TrackerData) → IsHeardAsPlanned plan t
    → lost_count t ≤ loses_in plan

-- and outputs are forgotten no more often than it allows: an epoch is the count of that
abbrev pub EventsArePlanned : Type 0
EventsArePlanned =
    (plan : List PlanLine) (t : TrackerData) → IsSoundTracker t → IsHeardAsPlanned plan t
    → t.epoch ≤ planned_losses plan
