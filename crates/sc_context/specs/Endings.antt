-- How a job is recorded once it is over.
use Rattle.std.specs.declared.alloc.Global.{Global}
use Rattle.std.specs.Prelude.{◌≡◌, ◌⊎◌, IfSome, List, [], ◌∷◌, ◌++◌, Option, Some, Result, Err, Vec}
use Rattle.std.specs.Option.{option_to_list}
use Rattle.sc_base.specs.Outside.{FilesState}
use Rattle.sc_base.specs.Trees.{Path}
use Rattle.sc_base.specs.declared.refusals.OrMemory.{OrMemory}
use Rattle.sc_compute.specs.declared.results.TaskResult.{TaskResult}
use Rattle.sc_lineage.specs.ScriptData.{WorkData}
use Rattle.sc_core.specs.CoreData.{CoreData}
use Rattle.sc_core.specs.Sound.{IsSoundCore}
use Rattle.sc_core.specs.declared.journals.JobHistory.{JobHistory}
use Rattle.sc_jobs.specs.declared.goals.Goal.{Goal}
use Rattle.sc_desk.specs.DeskData.{PassedData}
use Rattle.sc_context.specs.Goings.{HasRun, IsLeftOver}
use Rattle.sc_context.specs.Records.{IsGivenUp, IsLogged}
use Rattle.sc_context.specs.declared.records.GaveUp.{GaveUp}
use Rattle.sc_context.specs.declared.running.Run.{Run}
use Rattle.sc_context.specs.declared.running.Run.TheVariants as runs
use Rattle.sc_context.specs.declared.stops.JobFault.{JobFault}

-- what came of a job can be recorded: its entries are what its executors wrote down, and where it
-- was given up there was a reason
abbrev pub CanBeKept : {W F : Type 0} → WorkData → Run W F → Type 0
CanBeKept work (runs.Went went logs gave_up stores) =
    IsLogged went.history logs.items × IfSome gave_up (IsGivenUp work)
CanBeKept work (runs.Refused gave_up why files) = IsGivenUp work gave_up

-- which runs of a job were given up: one at most
abbrev pub given_by : {W F : Type 0} → Run W F → Option GaveUp
given_by (runs.Went went logs gave_up stores) = gave_up
given_by (runs.Refused gave_up why files) = Some gave_up

-- A job went so, behind what goes on and another job or none: its history stands behind the others,
-- and how it went before if it was given up.
pub record IsRecorded (work : WorkData) (passed : PassedData) (last : Option CoreData)
    (goal : Goal) (dir : Option Path) (opened : FilesState)
    (before front histories given_up : List JobHistory) (next : PassedData)
    (results : Result (Vec TaskResult Global) (OrMemory JobFault)) (files : FilesState)
    : Type 0 where
  pub history : JobHistory
  pub all : histories ≡ before ++ history ∷ []
  pub tried : Option JobHistory
  pub all_given : given_up ≡ front ++ option_to_list tried
  pub began : IsSoundCore history.opening
  pub ended : IsSoundCore history.end
  pub run : HasRun work passed last goal dir opened tried history next results files

-- A job has no results: it went so; or it was given up, and didn't begin again.
abbrev pub IsOver : WorkData → PassedData → Option CoreData → Goal → Option Path → FilesState
    → List JobHistory → List JobHistory → List JobHistory → List JobHistory → OrMemory JobFault
    → FilesState → Type 0
IsOver work passed last goal dir opened before front histories given_up why files =
    ((next : PassedData)
    × IsRecorded work passed last goal dir opened before front histories given_up next (Err why)
    files)
    ⊎ ((histories ≡ before)
    × ((tried : JobHistory) × (given_up ≡ front ++ tried ∷ [])
    × IsLeftOver work passed last goal dir opened tried why files))
