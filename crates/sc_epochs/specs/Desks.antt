-- What a desk has forgotten over all jobs of a run, and what it knows where a job begins again.
use Rattle.std.specs.Prelude.{◌≤◌}
use Rattle.sc_lineage.specs.ScriptData.{WorkData}
use Rattle.sc_plan.specs.Orders.{planned_losses}
use Rattle.sc_tracker.specs.TrackerData.{TrackerData}
use Rattle.sc_tracker.specs.TrackerFacts.{IsSoundTracker}
use Rattle.sc_tracker.specs.TrackerLaws.{IsLaterTracker}
use Rattle.sc_tracker.specs.Tracking.{unregistered}
use Rattle.sc_core.specs.Sound.{IsSoundCore}
use Rattle.sc_desk.specs.DeskData.{DeskData, core_of}
use Rattle.sc_desk.specs.Sound.{IsSoundDesk}

-- A desk forgets outputs no more often than the plan of its work allows: its epoch counts how often
-- it has, in this job and in all before.
abbrev pub DesksForgetAsPlanned : Type 0
DesksForgetAsPlanned =
    (work : WorkData) (d : DeskData) → IsSoundCore (core_of d) → IsSoundDesk work d
    → (core_of d).dag.tracker.epoch ≤ planned_losses work.plan

-- A job that was given up begins again with nothing registered. Nothing goes back by that: neither
-- the epoch, nor what was heard of an executor.
abbrev pub AgainGoesForward : Type 0
AgainGoesForward = (t : TrackerData) → IsSoundTracker t → IsLaterTracker t (unregistered t)
