-- How the jobs of a run went, one behind the other.
use Rattle.std.specs.Prelude.{ℕ, ◌-◌, ◌≡◌, ◌≢◌, ◌⊎◌, All, IfSome, List, [], ◌∷◌, ◌++◌, Option, Some, None, length, slice_get}
use Rattle.std.specs.Option.{option_map, option_to_list}
use Rattle.sc_ids.specs.Graphs.{StageData}
use Rattle.sc_ids.specs.declared.attempts.Mark.TheVariants.{Driver}
use Rattle.sc_lineage.specs.ScriptData.{WorkData}
use Rattle.sc_stagecut.specs.Cuts.{IsCut}
use Rattle.sc_core.specs.CoreData.{CoreData}
use Rattle.sc_core.specs.Journals.{Replays}
use Rattle.sc_core.specs.Openings.{IsOpening, unregistered_core}
use Rattle.sc_core.specs.Sound.{IsSoundCore}
use Rattle.sc_core.specs.declared.answers.Abort.{Abort}
use Rattle.sc_core.specs.declared.answers.JobState.TheVariants as jobs
use Rattle.sc_core.specs.declared.entries.Entry.{Entry}
use Rattle.sc_core.specs.declared.journals.JobHistory.{JobHistory}
use Rattle.sc_jobs.specs.JobData.{goal_node, job_data, saves}
use Rattle.sc_jobs.specs.declared.goals.Goal.{Goal}
use Rattle.sc_desk.specs.Sound.{AreEvident}
use Rattle.sc_context.specs.Progress.{IsNext, Progress, behind_job, first_progress}

-- the driver alone did all of it
abbrev pub AreDrivers : List Entry → Type 0
AreDrivers entries = All (λ e. e.by ≡ Driver) entries

-- What a job with these entries began behind: the core of the job before; or, where its executors
-- had given it up and the driver ran it again alone, that core with nothing registered.
abbrev pub BeginsBehind : Option JobHistory → Option CoreData → List Entry → Option CoreData
    → Type 0
BeginsBehind None last entries from = from ≡ last
BeginsBehind (Some tried) last entries from =
    (from ≡ option_map unregistered_core last) × AreDrivers entries

-- The job that comes next went so until its executors gave it up: it began behind the core of the
-- job before, these entries happened, each with its evidence, and they left its end.
pub record WasTried (work : WorkData) (p : Progress) (goal : Goal) (graph : List StageData)
    (tried : JobHistory) : Type 0 where
  pub opening : IsOpening graph work.limits (saves work goal) work.plan p.last tried.opening
  pub replays : Replays tried.opening tried.entries.items tried.end
  pub evidence : AreEvident work (job_data goal graph) tried.opening tried.entries.items tried.end
      replays

-- The job that comes next went so: its stages were cut behind what is carried, it began behind the
-- core of the job before, these entries happened, each with its evidence, and they left its end. If
-- it was given up before, that was a run of the same stages.
pub record IsHistory (work : WorkData) (p : Progress) (goal : Goal) (tried : Option JobHistory)
    (h : JobHistory) : Type 0 where
  pub next : IsNext work p goal
  pub graph : List StageData
  pub cut : IsCut work p.carried (goal_node work goal) graph
  pub from : Option CoreData
  pub behind : BeginsBehind tried p.last h.entries.items from
  pub opening : IsOpening graph work.limits (saves work goal) work.plan from h.opening
  pub began : IsSoundCore h.opening
  pub replays : Replays h.opening h.entries.items h.end
  pub evidence : AreEvident work (job_data goal graph) h.opening h.entries.items h.end replays
  pub was_tried : IfSome tried (WasTried work p goal graph)

-- and it is done, which leads so far
pub record IsDone (work : WorkData) (p : Progress) (tried : Option JobHistory) (h : JobHistory)
    (after : Progress) : Type 0 where
  pub goal : Goal
  pub is : IsHistory work p goal tried h
  pub done : h.end.job ≡ jobs.Done
  pub behind : after ≡ behind_job work p goal is.graph h.end

-- the job that comes next is done, which may have been given up before, and then this holds of how
-- far that leads, and of the further jobs that were given up
pub record IsDoneThen (work : WorkData) (p : Progress) (h : JobHistory)
    (given_up : List JobHistory) (Then : Progress → List JobHistory → Type 0) : Type 0 where
  pub mid : Progress
  pub tried : Option JobHistory
  pub rest : List JobHistory
  pub all : given_up ≡ option_to_list tried ++ rest
  pub done : IsDone work p tried h mid
  pub then : Then mid rest

-- Some jobs were done, one behind the other, and lead from here to there. These were given up, in
-- order, and each was run again: it is one of them.
abbrev pub HasCome : WorkData → Progress → List JobHistory → List JobHistory → Progress → Type 0
HasCome work p [] given_up after = (after ≡ p) × (given_up ≡ [])
HasCome work p (h ∷ histories) given_up after =
    IsDoneThen work p h given_up (λ mid rest. HasCome work mid histories rest after)

-- the jobs of so many actions are done, and no others but those of bounds before them
abbrev pub HasDone : WorkData → List JobHistory → List JobHistory → ℕ → Type 0
HasDone work histories given_up actions =
    (p : Progress) × HasCome work (first_progress work) histories given_up p
    × (p.actions ≡ actions)

-- some jobs were done and led so far, and then one more went so
pub record HasGone (work : WorkData) (histories given_up : List JobHistory) (p : Progress)
    (goal : Goal) (h : JobHistory) : Type 0 where
  pub before : List JobHistory
  pub all : histories ≡ before ++ h ∷ []
  pub given_before : List JobHistory
  pub tried : Option JobHistory
  pub all_given : given_up ≡ given_before ++ option_to_list tried
  pub come : HasCome work (first_progress work) before given_before p
  pub is : IsHistory work p goal tried h

-- Some jobs were done and led so far, and the one that came next was given up and not run again.
pub record HasGivenUp (work : WorkData) (histories given_up : List JobHistory) (p : Progress)
    : Type 0 where
  pub given_before : List JobHistory
  pub tried : JobHistory
  pub all_given : given_up ≡ given_before ++ tried ∷ []
  pub come : HasCome work (first_progress work) histories given_before p
  pub goal : Goal
  pub next : IsNext work p goal
  pub graph : List StageData
  pub cut : IsCut work p.carried (goal_node work goal) graph
  pub was_tried : WasTried work p goal graph tried

-- the job of a core was not aborted
abbrev pub IsUnaborted : CoreData → Type 0
IsUnaborted end = (abort : Abort) → end.job ≢ jobs.Aborted abort

-- So many actions had their value when memory ran out or a call on files failed: the jobs of these
-- are done, and perhaps one more went somehow, which was not aborted, or was given up and not run
-- again.
abbrev pub IsCutShort : WorkData → ℕ → List JobHistory → List JobHistory → Type 0
IsCutShort work k histories given_up =
    (p : Progress) × (p.actions ≡ k)
    × (HasCome work (first_progress work) histories given_up p
    ⊎ (HasGivenUp work histories given_up p
    ⊎ ((goal : Goal) × (h : JobHistory) × HasGone work histories given_up p goal h
    × IsUnaborted h.end)))

-- the core that the last of some jobs left, where there is one
abbrev pub last_end : List JobHistory → Option CoreData
last_end histories = option_map (λ h. h.end) (slice_get histories (length histories - 1))
