-- What a journal shows of lost executors, and of an abort for want of them.
use Rattle.std.specs.Prelude.{ℕ, ◌≡◌, ◌⊎◌, true, Bool, Contains, List, Option}
use Rattle.sc_ids.specs.Graphs.{StageData}
use Rattle.sc_ids.specs.declared.limits.Limits.{Limits}
use Rattle.sc_plan.specs.declared.lines.PlanLine.{PlanLine}
use Rattle.sc_tracker.specs.Trust.{are_lost}
use Rattle.sc_tracker.specs.TrackerData.{trust_of}
use Rattle.sc_core.specs.CoreData.{CoreData}
use Rattle.sc_core.specs.Journals.{Replays}
use Rattle.sc_core.specs.Openings.{IsOpening}
use Rattle.sc_core.specs.Sound.{IsSoundCore}
use Rattle.sc_core.specs.declared.answers.Abort.TheVariants.{NoExecutor}
use Rattle.sc_core.specs.declared.answers.JobState.TheVariants as jobs
use Rattle.sc_core.specs.declared.entries.Entry.{Entry}
use Rattle.sc_core.specs.declared.events.Event.TheVariants.{TellLost}

-- an entry tells that an executor is lost
abbrev pub TellsLoss : List Entry → ℕ → Type 0
TellsLoss entries exec = (e : Entry) × Contains entries e × (e.event ≡ TellLost exec)

-- an executor was lost where the job began, or an entry tells it
abbrev pub ShowsLoss : CoreData → List Entry → ℕ → Type 0
ShowsLoss opening entries exec =
    ((trust_of opening.dag.tracker exec).lost ≡ true) ⊎ TellsLoss entries exec

-- each executor that is lost in the end is shown so
abbrev pub LossesAreShown : Type 0
LossesAreShown =
    (opening end : CoreData) (entries : List Entry) (exec : ℕ) → IsSoundCore opening
    → Replays opening entries end → (trust_of end.dag.tracker exec).lost ≡ true
    → ShowsLoss opening entries exec

-- a job that is aborted for want of executors ends with every executor told lost
abbrev pub NoExecutorsAreShown : Type 0
NoExecutorsAreShown =
    (graph : List StageData) (limits : Limits) (saves : Bool) (plan : List PlanLine)
    (last : Option CoreData) (opening end : CoreData) (entries : List Entry)
    → IsOpening graph limits saves plan last opening
    → IsSoundCore opening → Replays opening entries end
    → end.job ≡ jobs.Aborted NoExecutor → are_lost end.dag.tracker.trust ≡ true
