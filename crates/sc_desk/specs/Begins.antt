-- How a desk begins.
use Rattle.std.specs.Prelude.{◌≡◌, ◌⊎◌, Bool, true, false, [], None, Some, List, Option, length, replicate}
use Rattle.std.specs.Option.{option_map}
use Rattle.sc_ids.specs.Graphs.{StageData}
use Rattle.sc_ids.specs.declared.limits.Limits.{Limits}
use Rattle.sc_lineage.specs.ScriptData.{WorkData}
use Rattle.sc_plan.specs.declared.lines.PlanLine.{PlanLine}
use Rattle.sc_stagecut.specs.Carrying.{AreRightBounds, IsCarriedFor, after_job}
use Rattle.sc_stagecut.specs.Cuts.{IsCut}
use Rattle.sc_compute.specs.declared.results.TaskResult.{TaskResult}
use Rattle.sc_core.specs.CoreData.{CoreData}
use Rattle.sc_core.specs.Openings.{IsOpening, tracker_behind, unregistered_core}
use Rattle.sc_core.specs.Journals.{JournalData}
use Rattle.sc_core.specs.Sound.{HasLive}
use Rattle.sc_jobs.specs.Fitting.{FitsWork}
use Rattle.sc_jobs.specs.JobData.{JobData, goal_node, saves}
use Rattle.sc_jobs.specs.declared.goals.Goal.{Goal}
use Rattle.sc_desk.specs.DeskData.{DeskData, PassedData, core_of, desk_data}
use Rattle.sc_desk.specs.Sound.{IsSeenDue, result_count}
use Rattle.sc_desk.specs.declared.orders.Ordered.{Ordered}

-- the desk of a job that begins with what goes on to it
abbrev pub begun_desk :
    JobData → JournalData → List (Option TaskResult) → PassedData → DeskData
begun_desk job journal results passed =
    desk_data job passed.carried journal results [] passed.ordered

-- A desk whose job begins behind what is carried and behind another job or none: nothing has
-- happened, and no result is there.
pub record Begins (work : WorkData) (passed : PassedData) (last : Option CoreData) (goal : Goal)
    (d : DeskData) : Type 0 where
  pub goal_is : d.job.goal ≡ goal
  pub cut : IsCut work passed.carried (goal_node work goal) d.job.graph
  pub carried_on : d.carried ≡ after_job passed.carried d.job.graph
  pub ordered : d.ordered ≡ passed.ordered
  pub opening : IsOpening d.job.graph work.limits (saves work goal) work.plan last
      d.journal.opening
  pub entries : d.journal.entries ≡ []
  pub core : core_of d ≡ d.journal.opening
  pub results : d.results ≡ replicate (result_count (core_of d).dag) None
  pub shelf : d.shelf ≡ []

-- A desk whose job begins again, behind another job or none and so many orders, where one for the
-- same job was given up. It has the stages that were planned there. Nothing is registered any more,
-- nothing has happened, and no result is there.
pub record BeginsAgain (work : WorkData) (d : DeskData) (last : Option CoreData)
    (orders : List Ordered) (after : DeskData) : Type 0 where
  pub job : after.job ≡ d.job
  pub carried : after.carried ≡ d.carried
  pub ordered : after.ordered ≡ orders
  pub opening : IsOpening d.job.graph work.limits (saves work d.job.goal) work.plan
      (option_map unregistered_core last) after.journal.opening
  pub entries : after.journal.entries ≡ []
  pub core : core_of after ≡ after.journal.opening
  pub results : after.results ≡ replicate (result_count (core_of after).dag) None
  pub shelf : after.shelf ≡ []

-- what a job is opened behind: the job before as it was left, or where it begins again the same
-- with nothing registered
abbrev pub left_for : Bool → Option CoreData → Option CoreData
left_for false last = last
left_for true last = option_map unregistered_core last

-- what is handed back where memory is wanting: what went on from the jobs before, with the job's
-- new stages or without them
pub record IsHandedBack (work : WorkData) (passed : PassedData) (goal : Goal) (back : PassedData)
    : Type 0 where
  pub carried : (back.carried ≡ passed.carried)
      ⊎ ((graph : List StageData) × IsCut work passed.carried (goal_node work goal) graph
      × (back.carried ≡ after_job passed.carried graph))
  pub ordered : back.ordered ≡ passed.ordered

-- what goes on from the jobs before serves a job of the work
pub record IsPassedFor (work : WorkData) (passed : PassedData) : Type 0 where
  pub carried : IsCarriedFor work.script.nodes passed.carried
  pub right : AreRightBounds work passed.carried
  pub many : length passed.ordered ≡ work.limits.executors

-- what the core of the job before leaves fits the work
pub record FitsRun (work : WorkData) (last : CoreData) : Type 0 where
  -- its tracker has the shuffles of the work, and all executors
  pub tracker : FitsWork work last.dag.tracker
  pub execs : length last.dag.tracker.trust ≡ work.limits.executors
  -- it ran under the plan of the work
  pub plan : last.plan ≡ work.plan
  -- no generation was seen that no wipe has brought
  pub seen : IsSeenDue work last

abbrev pub FitsLast : WorkData → Option CoreData → Type 0
FitsLast work None = Unit {0}
FitsLast work (Some last) = FitsRun work last

-- A job that begins again begins like any other, behind a job of which nothing is registered, and
-- with what went on to the desk of it that began first.
abbrev pub AgainIsBegun : Type 0
AgainIsBegun =
    (work : WorkData) (passed : PassedData) (before last : Option CoreData) (goal : Goal)
    (first d after : DeskData) (orders : List Ordered)
    → Begins work passed before goal first → d.job ≡ first.job → d.carried ≡ first.carried
    → orders ≡ passed.ordered → BeginsAgain work d last orders after
    → Begins work passed (option_map unregistered_core last) goal after

-- what a job leaves serves the work with nothing registered as well: it fits, and the same
-- executors are live
abbrev pub ServesUnregistered : Type 0
ServesUnregistered =
    (work : WorkData) (last : Option CoreData)
    → (FitsLast work last → FitsLast work (option_map unregistered_core last))
    × (HasLive (tracker_behind last work.limits)
    → HasLive (tracker_behind (option_map unregistered_core last) work.limits))

-- a journal of a job that begins, which saves or doesn't: nothing has happened
pub record IsFresh (graph : List StageData) (limits : Limits) (saving : Bool)
    (plan : List PlanLine) (last : Option CoreData) (j : JournalData) : Type 0 where
  pub opening_is : IsOpening graph limits saving plan last j.opening
  pub none : j.entries ≡ []
  pub core_is : j.core ≡ j.opening
