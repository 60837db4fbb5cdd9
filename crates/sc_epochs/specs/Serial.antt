-- What a job survives that is run on one thread.
use Rattle.std.specs.Prelude.{ℕ, ◌<◌, ◌≤◌, ◌≡◌, false, List, None}
use Rattle.sc_ids.specs.Graphs.{StageData}
use Rattle.sc_ids.specs.LimitRanges.{AreLimits}
use Rattle.sc_lineage.specs.ScriptData.{WorkData}
use Rattle.sc_plan.specs.Orders.{loss_of, planned_losses}
use Rattle.sc_core.specs.CoreData.{job_runs}
use Rattle.sc_core.specs.Sound.{IsSoundCore}
use Rattle.sc_core.specs.declared.answers.Abort.{Abort}
use Rattle.sc_core.specs.declared.answers.Abort.TheVariants as aborts
use Rattle.sc_core.specs.declared.answers.JobState.{JobState}
use Rattle.sc_core.specs.declared.answers.JobState.TheVariants as jobs
use Rattle.sc_bound.specs.Bounds.{hand_out_bound}
use Rattle.sc_store.specs.StoreData.{StoreData}
use Rattle.sc_desk.specs.DeskData.{DeskData, core_of}
use Rattle.sc_desk.specs.Sound.{IsSoundDesk}
use Rattle.sc_world.specs.Runs.{AreReady, HasBegun, Reaches, idle_world}
use Rattle.sc_world.specs.WorldData.{WorldData, core_in}
use Rattle.sc_epochs.specs.Worlds.{ComesAbout}

-- ---- worlds of a run

-- a job comes about where it begins over stores that are ready for it
abbrev pub BeginningsComeAbout : Type 0
BeginningsComeAbout =
    (work : WorkData) (desk : DeskData) (stores : List StoreData) → HasBegun work desk
    → IsSoundCore (core_of desk) → IsSoundDesk work desk
    → AreReady work stores (core_of desk).dag.tracker (core_of desk).told
    → ComesAbout work (idle_world work desk stores)

-- and it comes to what steps lead to, as some steps in a row do, and a serial run
abbrev pub ReachedComeAbout : Type 0
ReachedComeAbout =
    (work : WorkData) (w after : WorldData) → ComesAbout work w → Reaches work w after
    → ComesAbout work after

-- ---- how a job ends that there is room for

-- The limits of a run leave room for what its plan does to a job of these stages: it may hand out
-- as many tasks as the bound, as many attempts of a stage may fail as outputs are forgotten, and an
-- executor isn't lost.
pub record LeavesRoom (work : WorkData) (graph : List StageData) : Type 0 where
  pub budget : hand_out_bound graph work.plan work.limits ≤ work.limits.hand_outs
  pub stages : planned_losses work.plan < work.limits.stage_attempts
  pub spared : ℕ
  pub there : spared < work.limits.executors
  pub never : loss_of work.plan spared ≡ None

-- a job isn't aborted, but for the failures of one of its tasks
abbrev pub IsTaskLimit : Abort → Type 0
IsTaskLimit (aborts.TaskLimit stage number partition) = Unit {0}
IsTaskLimit (aborts.StageLimit stage) = ⊥
IsTaskLimit aborts.NoExecutor = ⊥
IsTaskLimit aborts.Budget = ⊥

abbrev pub EndsInRoom : JobState → Type 0
EndsInRoom jobs.Running = ⊥
EndsInRoom jobs.Done = Unit {0}
EndsInRoom (jobs.Aborted why) = IsTaskLimit why

-- so ends each job in a world
abbrev pub RoomSuffices : Type 0
RoomSuffices =
    (work : WorkData) (w : WorldData) → AreLimits work.limits → ComesAbout work w
    → LeavesRoom work w.desk.job.graph → job_runs (core_in w) ≡ false
    → EndsInRoom (core_in w).job

-- ---- serial runs

-- what is left of a job that has ended, by steps from where it began
pub record IsRunOut (work : WorkData) (desk : DeskData) (stores : List StoreData)
    (after : WorldData) : Type 0 where
  pub begun : HasBegun work desk
  pub core : IsSoundCore (core_of desk)
  pub sound : IsSoundDesk work desk
  pub ready : AreReady work stores (core_of desk).dag.tracker (core_of desk).told
  pub reaches : Reaches work (idle_world work desk stores) after
  pub ended : job_runs (core_in after) ≡ false

-- A serial run has handed out no more tasks than the bound, and where there is room for what the
-- plan does, the job is done, or was aborted for the failures of one of its tasks.
abbrev pub SerialRunsSurvive : Type 0
SerialRunsSurvive =
    (work : WorkData) (desk : DeskData) (stores : List StoreData) (after : WorldData)
    → AreLimits work.limits → IsRunOut work desk stores after
    → ((core_in after).handed ≤ hand_out_bound after.desk.job.graph work.plan work.limits)
    × (LeavesRoom work after.desk.job.graph → EndsInRoom (core_in after).job)
