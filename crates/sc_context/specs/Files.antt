-- What the jobs of a run leave of the files.
use Rattle.std.specs.Prelude.{ℕ, ◌≡◌, ◌⊎◌, false, true, Contains, IfSome, List, [], ◌∷◌, ◌++◌, Option, Some, None, Result, Ok, Err}
use Rattle.std.specs.Option.{option_to_list}
use Rattle.sc_base.specs.Outside.{Changes, FilesState, IsLaterFiles, IsQuietFiles}
use Rattle.sc_base.specs.Saves.{IsApart, saved_tree}
use Rattle.sc_base.specs.Trees.{Path, Tree, has_dir}
use Rattle.sc_base.specs.declared.refusals.OrMemory.{OrMemory}
use Rattle.sc_base.specs.declared.refusals.OrMemory.TheVariants.{Fault, OutOfMemory}
use Rattle.sc_ids.specs.declared.attempts.AttemptId.{AttemptId}
use Rattle.sc_ids.specs.declared.failures.Fault as device
use Rattle.sc_ids.specs.Graphs.{StageData}
use Rattle.sc_lineage.specs.Actions.{action_outcome, saves}
use Rattle.sc_lineage.specs.ScriptData.{WorkData}
use Rattle.sc_files.specs.Calls.{CountsClash, CountsFault}
use Rattle.sc_output.specs.Calls.{Call, IsNotDone, MakesCalls}
use Rattle.sc_output.specs.Commits.{abort_calls, commit_calls}
use Rattle.sc_output.specs.Names.{staging_path}
use Rattle.sc_output.specs.Saved.{IsUnderWay}
use Rattle.sc_staging.specs.Opening.{IsHalfOpened, IsInTheWay, IsOfSave, IsOpenedNoFurther}
use Rattle.sc_staging.specs.Renewal.{IsHalfRenewed, cleared_tree}
use Rattle.sc_core.specs.CoreData.{CoreData}
use Rattle.sc_core.specs.Openings.{IsOpening}
use Rattle.sc_core.specs.declared.journals.JobHistory.{JobHistory}
use Rattle.sc_jobs.specs.JobData.{goal_action}
use Rattle.sc_jobs.specs.declared.goals.Goal.{Goal}
use Rattle.sc_jobs.specs.declared.goals.Goal.TheVariants as goals
use Rattle.sc_desk.specs.Files.{AreCounted, AreWinners, dir_of_job, faults_of}
use Rattle.sc_context.specs.Histories.{HasCome}
use Rattle.sc_context.specs.Progress.{Progress}
use Rattle.sc_context.specs.declared.stops.JobFault.{JobFault}
use Rattle.sc_context.specs.declared.stops.JobFault.TheVariants as faults

-- ---- a save that is under way

-- the tree since which a save is under way: where it was given up before, its staging area was
-- removed with all that lay there
abbrev pub begun_tree : Option JobHistory → Path → Tree → Tree
begun_tree None dir t = t
begun_tree (Some tried) dir t = cleared_tree dir t

-- A save is under way since the files were so: its directory wasn't there, and since both
-- directories were made only files in the staging area have changed. Where it was given up before,
-- the staging area was made anew.
pub record IsOpenSince (tried : Option JobHistory) (dir : Path) (before after : FilesState)
    : Type 0 where
  pub later : IsLaterFiles before after
  pub way : Changes (λ t u. (has_dir t dir ≡ false) × IsUnderWay dir (begun_tree tried dir t) u)
      before.shown after.shown

-- ---- a job that is done

-- A job that saves is done and committed: the part of each partition is the one that its winner
-- moved. Where the files show, and nothing was at the directory or under it, there is what a save
-- leaves by the sequential meaning, and nothing else has changed.
pub record IsCommitted (work : WorkData) (goal : Goal) (dir : Path) (tried : Option JobHistory)
    (h : JobHistory) (before after : FilesState) : Type 0 where
  pub mid : FilesState
  pub way : IsOpenSince tried dir before mid
  pub winners : List AttemptId
  pub are_winners : AreWinners h.end.committers winners
  pub commits : MakesCalls (commit_calls dir winners) mid after (Ok tt)
  pub texts : List (List ℕ)
  pub gives : action_outcome work (goal_action work goal) ≡ saves dir texts
  pub saved : (opening : Tree) → before.shown ≡ Some opening → IsApart dir opening
      → after.shown ≡ Some (saved_tree dir texts opening)

-- the same of any job, by the directory that it saves to
abbrev pub LeavesIn : Option Path → WorkData → Goal → Option JobHistory → JobHistory → FilesState
    → FilesState → Type 0
LeavesIn None work goal tried h before after = after ≡ before
LeavesIn (Some dir) work goal tried h before after =
    IsCommitted work goal dir tried h before after × IsLaterFiles before after

-- the faults that the entries of a job tell of that was given up, if it was
abbrev pub faults_before : Option JobHistory → List device.Fault
faults_before None = []
faults_before (Some tried) = faults_of tried.entries.items

-- those of the job behind them
abbrev pub faults_with : Option JobHistory → JobHistory → List device.Fault
faults_with tried h = faults_before tried ++ faults_of h.entries.items

-- What the files have counted while a job ran: just the faults that its entries tell of.
abbrev pub CountsOf : Option JobHistory → JobHistory → FilesState → FilesState → Type 0
CountsOf tried h before after = AreCounted before (faults_with tried h) after

-- What a job that is done leaves of the files.
pub record LeavesFiles (work : WorkData) (goal : Goal) (tried : Option JobHistory)
    (h : JobHistory) (before after : FilesState) : Type 0 where
  pub left : LeavesIn (dir_of_job work goal) work goal tried h before after
  pub counted : CountsOf tried h before after

-- what jobs leave that were done, one behind the other
abbrev pub HaveLeft : (work : WorkData) (p : Progress) (histories given_up : List JobHistory)
    (q : Progress) → HasCome work p histories given_up q → FilesState → FilesState → Type 0
HaveLeft work p [] given_up q come before after = after ≡ before
HaveLeft work p (h ∷ histories) given_up q come before after =
    (then : FilesState) × LeavesFiles work come.done.goal come.tried h before then
    × HaveLeft work come.mid histories come.rest q come.then then after

-- ---- a job that comes to no end

-- the calls by which a save ends: those of a commit or of an abort
abbrev pub IsEnding : Path → List Call → Type 0
IsEnding dir calls =
    (calls ≡ abort_calls dir) ⊎ ((winners : List AttemptId) × (calls ≡ commit_calls dir winners))

-- a job that saves went so
abbrev pub IsSave : WorkData → JobHistory → Type 0
IsSave work h =
    (graph : List StageData) × (last : Option CoreData)
    × IsOpening graph work.limits true work.plan last h.opening

-- if a save was given up, it is one of these
abbrev pub IsTriedIn : WorkData → List JobHistory → Option JobHistory → Type 0
IsTriedIn work given tried = IfSome tried (λ h. Contains given h × IsSave work h)

-- a save that was under way made these calls at its end; it may have been given up before, and is
-- among these then
pub record EndsBy (work : WorkData) (given : List JobHistory) (dir : Path)
    (before after : FilesState) (calls : List Call) (result : Result (Unit {0}) (OrMemory Path))
    : Type 0 where
  pub tried : Option JobHistory
  pub own : IsTriedIn work given tried
  pub mid : FilesState
  pub way : IsOpenSince tried dir before mid
  pub makes : MakesCalls calls mid after result

-- a save that was given up couldn't begin again, since a call for its staging area failed: some of
-- that may be gone, or all of it is, and it was made anew or wasn't
pub record FailsAgain (work : WorkData) (given : List JobHistory) (dir path : Path)
    (before after : FilesState) : Type 0 where
  pub tried : JobHistory
  pub own : IsTriedIn work given (Some tried)
  pub mid : FilesState
  pub way : IsOpenSince None dir before mid
  pub at : path ≡ staging_path dir
  pub not_done : IsNotDone mid after
  pub half : Changes (IsHalfRenewed dir) mid.shown after.shown

-- How the files of a save stand that came to no end, by what ended it: an abort that was through; a
-- directory that is there already; a call that failed where the save was opened, began again or at
-- its end; or want of memory anywhere.
abbrev pub FailsIn : WorkData → List JobHistory → Path → FilesState → FilesState
    → OrMemory JobFault → Type 0
FailsIn work given dir before after (Fault (faults.Aborted abort)) =
    EndsBy work given dir before after (abort_calls dir) (Ok tt)
FailsIn work given dir before after (Fault (faults.Exists path)) =
    IsOfSave dir path × CountsClash before after
    × Changes (IsInTheWay dir path) before.shown after.shown
FailsIn work given dir before after (Fault (faults.Device path)) =
    (IsOfSave dir path × CountsFault before after
    × Changes (IsHalfOpened dir path) before.shown after.shown)
    ⊎ (((calls : List Call) × IsEnding dir calls
    × EndsBy work given dir before after calls (Err (Fault path)))
    ⊎ FailsAgain work given dir path before after)
FailsIn work given dir before after OutOfMemory =
    (IsQuietFiles before after × Changes (IsOpenedNoFurther dir) before.shown after.shown)
    ⊎ ((calls : List Call) × IsEnding dir calls
    × (EndsBy work given dir before after calls (Ok tt)
    ⊎ EndsBy work given dir before after calls (Err OutOfMemory)))

-- what ends a job that calls no files
abbrev pub IsOfNoFiles : OrMemory JobFault → Type 0
IsOfNoFiles (Fault (faults.Aborted abort)) = Unit {0}
IsOfNoFiles (Fault (faults.Exists path)) = ⊥
IsOfNoFiles (Fault (faults.Device path)) = ⊥
IsOfNoFiles OutOfMemory = Unit {0}

-- how the files stand where a job came to no end, by the directory that its action saves to, and by
-- those that were given up for that action
abbrev pub StopsIn : WorkData → List JobHistory → Option Path → FilesState → FilesState
    → OrMemory JobFault → Type 0
StopsIn work given None before after why = (after ≡ before) × IsOfNoFiles why
StopsIn work given (Some dir) before after why =
    ((after ≡ before) × IsOfNoFiles why)
    ⊎ (IsLaterFiles before after × FailsIn work given dir before after why)

-- the same of a job for the action of a number
abbrev pub StopsFiles : WorkData → List JobHistory → ℕ → FilesState → FilesState
    → OrMemory JobFault → Type 0
StopsFiles work given k before after why =
    StopsIn work given (dir_of_job work (goals.Action k)) before after why

-- ---- what the files have counted

-- what the files have counted while a job ran that may have been given up before, and then this
-- holds of them, and of the further jobs that were given up
pub record CountsThen (h : JobHistory) (given_up : List JobHistory) (before : FilesState)
    (Then : List JobHistory → FilesState → Type 0) : Type 0 where
  pub tried : Option JobHistory
  pub rest : List JobHistory
  pub all : given_up ≡ option_to_list tried ++ rest
  pub mid : FilesState
  pub counted : CountsOf tried h before mid
  pub then : Then rest mid

-- what the files have counted while some jobs ran, one behind the other
abbrev pub CountAll : List JobHistory → List JobHistory → FilesState → FilesState → Type 0
CountAll [] given_up before after = (after ≡ before) × (given_up ≡ [])
CountAll (h ∷ histories) given_up before after =
    CountsThen h given_up before (λ rest mid. CountAll histories rest mid after)

-- What the last calls for a job that came to no end have counted, by what ended it.
abbrev pub CountsLast : OrMemory JobFault → FilesState → FilesState → Type 0
CountsLast (Fault (faults.Aborted abort)) before after = IsQuietFiles before after
CountsLast (Fault (faults.Exists path)) before after = CountsClash before after
CountsLast (Fault (faults.Device path)) before after = IsNotDone before after
CountsLast OutOfMemory before after = IsQuietFiles before after

-- why a job that was given up didn't begin again: memory ran out, or a call failed
abbrev pub IsOfRenewal : OrMemory JobFault → Type 0
IsOfRenewal (Fault (faults.Aborted abort)) = ⊥
IsOfRenewal (Fault (faults.Exists path)) = ⊥
IsOfRenewal (Fault (faults.Device path)) = Unit {0}
IsOfRenewal OutOfMemory = Unit {0}

-- the same, or behind a job that was given up and didn't begin again
abbrev pub CountsEnd : OrMemory JobFault → Option JobHistory → FilesState → FilesState → Type 0
CountsEnd why None before after = CountsLast why before after
CountsEnd why (Some tried) before after =
    IsOfRenewal why
    × ((left : FilesState) × AreCounted before (faults_of tried.entries.items) left
    × IsLaterFiles left after × CountsLast why left after)

-- The files have counted what some jobs tell of, and behind them what ended the last job.
pub record HasCounted (histories given_up : List JobHistory) (why : OrMemory JobFault)
    (before after : FilesState) : Type 0 where
  pub front : List JobHistory
  pub unfinished : Option JobHistory
  pub all : given_up ≡ front ++ option_to_list unfinished
  pub last : FilesState
  pub counted : CountAll histories front before last
  pub later : IsLaterFiles last after
  pub ends : CountsEnd why unfinished last after
