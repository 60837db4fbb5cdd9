-- How a job goes on from its beginning to its end.
use Rattle.std.specs.declared.alloc.Global.{Global}
use Rattle.std.specs.Prelude.{◌≡◌, IfErr, IfOk, IfSome, IsSomeAnd, List, Option, Some, Result, Vec}
use Rattle.sc_base.specs.Outside.{FilesState, IsLaterFiles}
use Rattle.sc_base.specs.Trees.{Path}
use Rattle.sc_base.specs.declared.refusals.OrMemory.{OrMemory}
use Rattle.sc_base.specs.declared.refusals.OrMemory.TheVariants.{OutOfMemory}
use Rattle.sc_compute.specs.declared.results.TaskResult.{TaskResult}
use Rattle.sc_lineage.specs.ScriptData.{WorkData}
use Rattle.sc_staging.specs.Outputs.{GoesOnIn}
use Rattle.sc_core.specs.CoreData.{CoreData}
use Rattle.sc_core.specs.Journals.{Replays}
use Rattle.sc_core.specs.Openings.{IsOpening}
use Rattle.sc_core.specs.declared.journals.JobHistory.{JobHistory}
use Rattle.sc_jobs.specs.JobData.{JobData, saves}
use Rattle.sc_jobs.specs.declared.goals.Goal.{Goal}
use Rattle.sc_desk.specs.Begins.{Begins, BeginsAgain, FitsLast, IsPassedFor}
use Rattle.sc_desk.specs.DeskData.{DeskData, PassedData}
use Rattle.sc_desk.specs.Files.{AreCounted, FilesStand, faults_of}
use Rattle.sc_desk.specs.Sound.{AreEvident}
use Rattle.sc_desk.specs.declared.orders.Ordered.{Ordered}
use Rattle.sc_exec.specs.JobDesks.{JobDeskData, job_desk_data}
use Rattle.sc_exec.specs.Openings.{OpeningData, opening_data}
use Rattle.sc_context.specs.Files.{faults_with}
use Rattle.sc_context.specs.Histories.{AreDrivers, BeginsBehind}
use Rattle.sc_context.specs.Jobs.{HasNoResults, HasResults}
use Rattle.sc_context.specs.Outputs.{CountsIn, HasBegunIn, IsLeftOpen, IsNotBegun, IsRenewedIn, WentIn}
use Rattle.sc_context.specs.Records.{IsGivenUp, IsLogged, tried_in}
use Rattle.sc_context.specs.declared.records.GaveUp.{GaveUp}
use Rattle.sc_context.specs.declared.running.Run.{Run}
use Rattle.sc_context.specs.declared.running.Run.TheVariants as runs
use Rattle.sc_context.specs.declared.stops.JobFault.{JobFault}

-- a desk is that of a job that begins behind another one or none
abbrev pub BeganBehind : WorkData → Option CoreData → DeskData → Type 0
BeganBehind work last d =
    (passed : PassedData) × (goal : Goal) × Begins work passed last goal d

-- a desk is one of such a job later on, and these orders of the fault plan were handed out before
pub record CameFrom (work : WorkData) (last : Option CoreData) (orders : List Ordered)
    (d : DeskData) : Type 0 where
  pub passed : PassedData
  pub goal : Goal
  pub first : DeskData
  pub begins : Begins work passed last goal first
  pub job : d.job ≡ first.job
  pub carried : d.carried ≡ first.carried
  pub orders_are : orders ≡ passed.ordered

-- a desk with the files of its job comes from a beginning: it is the same job, and a save that was
-- under way is under way
pub record ComesFrom (work : WorkData) (o : OpeningData) (h : JobDeskData) : Type 0 where
  pub core : h.desk.journal.opening ≡ o.core
  pub job : h.desk.job ≡ o.job
  pub carried : h.desk.carried ≡ o.carried
  pub dir : h.dir ≡ o.dir
  pub stand : FilesStand work h.desk h.dir h.files
  pub later : IsLaterFiles o.files h.files
  pub goes : GoesOnIn o.dir o.files h.files

-- A job went so from its beginning to its end: this is its history, what goes on to the next one,
-- its results or why there are none, and its files.
pub record GoesFrom (work : WorkData) (o : OpeningData)
    (h : JobHistory) (passed : PassedData)
    (results : Result (Vec TaskResult Global) (OrMemory JobFault)) (files : FilesState)
    : Type 0 where
  pub opening : h.opening ≡ o.core
  pub replays : Replays h.opening h.entries.items h.end
  pub evidence : (is : Replays h.opening h.entries.items h.end)
      → AreEvident work o.job h.opening h.entries.items h.end is
  pub carried : passed.carried ≡ o.carried
  pub passed_on : IsPassedFor work passed
  pub fits : FitsLast work (Some h.end)
  pub given : IfOk results (λ rs. HasResults work o.job.goal h.end rs.items)
  pub none : IfErr results (HasNoResults work o.job.goal h.end)
  pub left : WentIn o.dir work o.job.goal h.end o.files files results

-- A job went so until its executors gave it up, behind another one or none.
pub record IsTrial (work : WorkData) (last : Option CoreData) (goal : Goal) (job : JobData)
    (tried : JobHistory) : Type 0 where
  pub opening : IsOpening job.graph work.limits (saves work goal) work.plan last tried.opening
  pub replays : Replays tried.opening tried.entries.items tried.end
  pub evidence : AreEvident work job tried.opening tried.entries.items tried.end replays

-- A job that began with a desk, or that was given up before and began once more with nothing
-- registered and nothing in its staging area, went so. The files have counted just the faults that
-- its entries tell of, then and before, and then what ended it.
pub record HasRun (work : WorkData) (passed : PassedData) (last : Option CoreData) (goal : Goal)
    (dir : Option Path) (opened : FilesState) (tried : Option JobHistory) (h : JobHistory)
    (next : PassedData) (results : Result (Vec TaskResult Global) (OrMemory JobFault))
    (files : FilesState) : Type 0 where
  pub desk : DeskData
  pub from : Option CoreData
  pub begins : Begins work passed from goal desk
  pub behind : BeginsBehind tried last h.entries.items from
  pub was_tried : IfSome tried (IsTrial work last goal desk.job)
  pub begun : FilesState
  pub began : HasBegunIn tried dir opened begun
  pub goes : GoesFrom work
      (opening_data desk.journal.opening desk.job desk.carried dir begun) h next results files
  pub counted : CountsIn (faults_with tried h) opened files results

-- a history is that of a desk so far
pub record IsSoFar (work : WorkData) (d : DeskData) (h : JobHistory) : Type 0 where
  pub opening : h.opening ≡ d.journal.opening
  pub entries : h.entries.items ≡ d.journal.entries
  pub replays : Replays h.opening h.entries.items h.end
  pub evidence : AreEvident work d.job h.opening h.entries.items h.end replays

-- the job of a desk was given up for a reason
abbrev pub GivesUp : WorkData → DeskData → GaveUp → Type 0
GivesUp work d gave_up = IsGivenUp work gave_up × IsSoFar work d gave_up.history

-- What came of a job that began again with nothing registered and nothing in its staging area: the
-- driver ran it alone, and it went so; or memory ran out before it began.
abbrev pub RunsRenewed : {W F : Type 0} → WorkData → (F → FilesState) → DeskData → Option Path
    → FilesState → GaveUp → Run W F → Type 0
RunsRenewed work state d dir begun given (runs.Went went logs gave_up stores) =
    ((o : OpeningData) → ComesFrom work o (job_desk_data d dir begun)
    → GoesFrom work o went.history went.passed went.results (state went.files))
    × CountsIn (faults_of went.history.entries.items) begun (state went.files) went.results
    × AreDrivers went.history.entries.items × IsLogged went.history logs.items
    × (gave_up ≡ Some given)
RunsRenewed work state d dir begun given (runs.Refused gave_up why after) =
    (gave_up ≡ given) × (why ≡ OutOfMemory) × (state after ≡ begun)

-- What came of a job that was given up: it began again with nothing registered and nothing in its
-- staging area, and went so, by the driver alone; or it didn't begin again.
abbrev pub RunsAgain : {W F : Type 0} → WorkData → (F → FilesState) → DeskData → Option CoreData
    → List Ordered → Option Path → FilesState → Run W F → Type 0
RunsAgain work state d last ordered dir files (runs.Went went logs gave_up stores) =
    ((after : DeskData) × BeginsAgain work d last ordered after
    × ((begun : FilesState) × IsRenewedIn dir files begun × FilesStand work after dir begun
    × ((o : OpeningData) → ComesFrom work o (job_desk_data after dir begun)
    → GoesFrom work o went.history went.passed went.results (state went.files))
    × CountsIn (faults_of went.history.entries.items) begun (state went.files) went.results))
    × AreDrivers went.history.entries.items
    × IsLogged went.history logs.items × IsSomeAnd gave_up (GivesUp work d)
RunsAgain work state d last ordered dir files (runs.Refused gave_up why after) =
    GivesUp work d gave_up × IsNotBegun dir files (state after) why

-- A job began with a desk, went so until its executors gave it up, and didn't begin again.
pub record IsLeftOver (work : WorkData) (passed : PassedData) (last : Option CoreData)
    (goal : Goal) (dir : Option Path) (opened : FilesState) (tried : JobHistory)
    (why : OrMemory JobFault) (files : FilesState) : Type 0 where
  pub desk : DeskData
  pub begins : Begins work passed last goal desk
  pub was_tried : IsTrial work last goal desk.job tried
  pub left : FilesState
  pub left_open : IsLeftOpen dir opened left
  pub counted : AreCounted opened (faults_of tried.entries.items) left
  pub not_begun : IsNotBegun dir left files why

-- What came of a job that began with a desk behind what goes on and another job or none.
abbrev pub RunsFrom : {W F : Type 0} → WorkData → (F → FilesState) → PassedData → Option CoreData
    → Goal → Option Path → FilesState → Run W F → Type 0
RunsFrom work state passed last goal dir opened (runs.Went went logs gave_up stores) =
    HasRun work passed last goal dir opened (tried_in gave_up) went.history went.passed
    went.results (state went.files)
    × IsLogged went.history logs.items × IfSome gave_up (IsGivenUp work)
RunsFrom work state passed last goal dir opened (runs.Refused gave_up why files) =
    IsGivenUp work gave_up
    × IsLeftOver work passed last goal dir opened gave_up.history why (state files)
