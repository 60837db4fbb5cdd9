-- A world that goes on by steps, in any order.
use Rattle.std.specs.Prelude.{ℕ, ◌≡◌, ◌≤◌, List, [], ◌∷◌, Option, None, IfSome, length, replicate, slice_get}
use Rattle.sc_lineage.specs.ScriptData.{WorkData}
use Rattle.sc_tracker.specs.TrackerData.{TrackerData}
use Rattle.sc_core.specs.CoreData.{CoreData}
use Rattle.sc_core.specs.Sound.{IsSoundCore}
use Rattle.sc_jobs.specs.declared.goals.Goal.{Goal}
use Rattle.sc_store.specs.StoreData.{StoreData}
use Rattle.sc_net.specs.Tasks.{IsTaskOf}
use Rattle.sc_task.specs.Attempts.{AttemptData, task_of}
use Rattle.sc_desk.specs.Begins.{Begins}
use Rattle.sc_desk.specs.DeskData.{DeskData, PassedData}
use Rattle.sc_desk.specs.Dues.{wipes_due}
use Rattle.sc_desk.specs.Sound.{IsSoundDesk}
use Rattle.sc_world.specs.Sound.{IsSoundWorld}
use Rattle.sc_world.specs.Steps.{Goes}
use Rattle.sc_world.specs.Ties.{AreTied, generation_at}
use Rattle.sc_world.specs.WorldData.{WorldData, core_in, held_at, world_data}
use Rattle.sc_world.specs.declared.steps.Applied.{Applied}
use Rattle.sc_world.specs.declared.steps.Step.{Step}

-- what some steps answer and leave, one after the other, each of which leaves a desk that is right
-- by its type
abbrev pub Runs : WorkData → WorldData → List Step → List Applied → WorldData → Type 0
Runs work w [] [] after = after ≡ w
Runs work w (step ∷ rest) (answer ∷ answers) after =
    (mid : WorldData) × Goes work w step answer mid × IsSoundDesk work mid.desk
    × Runs work mid rest answers after
Runs work w steps answers after = ⊥

-- some steps lead from a world to another
pub record Reaches (work : WorkData) (w after : WorldData) : Type 0 where
  pub steps : List Step
  pub answers : List Applied
  pub runs : Runs work w steps answers after

-- the task of an attempt is one of its job
abbrev pub IsOfTask : AttemptData → Type 0
IsOfTask a = IsTaskOf (task_of a).job (task_of a).hand_out

-- a world with what its parts are by their types
pub record IsWorld (work : WorkData) (w : WorldData) : Type 0 where
  pub core : IsSoundCore (core_in w)
  pub desk : IsSoundDesk work w.desk
  pub tasks : (exec : ℕ) → IfSome (held_at w exec) IsOfTask
  pub sound : IsSoundWorld work w

-- the stores before a job: those of the executors in order, where all is that the tracker knows,
-- and wiped no oftener than the plan says by now
pub record AreReady (work : WorkData) (stores : List StoreData) (t : TrackerData) (told : ℕ)
    : Type 0 where
  pub many : length stores ≡ work.limits.executors
  pub own : (exec : ℕ) → IfSome (slice_get stores exec) (λ s. s.exec ≡ exec)
  pub tied : AreTied stores t
  pub due : (exec : ℕ) → generation_at stores exec ≤ wipes_due work told exec

-- a desk whose job begins, behind some other job or none
abbrev pub HasBegun : WorkData → DeskData → Type 0
HasBegun work desk =
    (passed : PassedData) × (last : Option CoreData) × (goal : Goal)
    × Begins work passed last goal desk

-- a world in which no executor holds an attempt
abbrev pub idle_world : WorkData → DeskData → List StoreData → WorldData
idle_world work desk stores = world_data desk stores (replicate work.limits.executors None)
