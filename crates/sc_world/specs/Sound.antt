-- What holds of every world.
use Rattle.std.specs.Prelude.{ℕ, ◌≡◌, ◌≤◌, true, List, Some, None, IfSome, length, slice_get, Contains}
use Rattle.std.specs.List.{All, AllZip}
use Rattle.sc_ids.specs.declared.blocks.BlockId.{BlockId}
use Rattle.sc_ids.specs.declared.blocks.Loc.{Loc}
use Rattle.sc_tracker.specs.declared.outputs.Location.{Location}
use Rattle.sc_tracker.specs.declared.outputs.Location.TheVariants as locations
use Rattle.sc_lineage.specs.ScriptData.{WorkData}
use Rattle.sc_core.specs.CoreData.{CoreData, job_runs, running_of}
use Rattle.sc_core.specs.Posts.{is_save}
use Rattle.sc_core.specs.Sound.{was_given}
use Rattle.sc_core.specs.declared.running.Phase.{Phase}
use Rattle.sc_core.specs.declared.running.Phase.TheVariants as phases
use Rattle.sc_core.specs.declared.running.Running.{Running}
use Rattle.sc_jobs.specs.JobData.{saves}
use Rattle.sc_store.specs.StoreData.{StoreData}
use Rattle.sc_net.specs.Tasks.{TaskData, block_of_task, blocks_of_task}
use Rattle.sc_net.specs.declared.findings.Finding.{Finding}
use Rattle.sc_net.specs.declared.findings.Finding.TheVariants as findings
use Rattle.sc_task.specs.Attempts.{AttemptData, assigned, computed, granted, reported, staged, stored, task_of}
use Rattle.sc_desk.specs.Dues.{wipes_due}
use Rattle.sc_world.specs.Places.{IsAtRest}
use Rattle.sc_world.specs.Ties.{AreTied, StandsAt, generation_at}
use Rattle.sc_world.specs.WorldData.{WorldData, core_in, held_at}

-- An input of a task: where it was given a location, its block stands there, and where it had none
-- it was somewhere, and stands there.
abbrev pub InputStands : List StoreData → BlockId → Location → Type 0
InputStands stores b (locations.Here loc) = StandsAt stores b loc
InputStands stores b (locations.Missing None) = ⊥
InputStands stores b (locations.Missing (Some loc)) = StandsAt stores b loc

-- an attempt's own block was put at a location
pub record HasPut (stores : List StoreData) (t : TaskData) (loc : Loc) : Type 0 where
  pub block : BlockId
  pub own : block_of_task t ≡ Some block
  pub there : StandsAt stores block loc

-- what a report says of stores
abbrev pub Says : List StoreData → TaskData → Finding → Type 0
Says stores t (findings.Map loc) = HasPut stores t loc
Says stores t (findings.Gone on wanted found) = found ≤ generation_at stores on
Says stores t finding = Unit {0}

-- a map output is told of by the executor that has it
abbrev pub IsFrom : ℕ → Finding → Type 0
IsFrom exec (findings.Map loc) = loc.exec ≡ exec
IsFrom exec finding = Unit {0}

-- what an attempt says of stores
abbrev pub Brings : List StoreData → ℕ → AttemptData → Type 0
Brings stores exec (assigned t got) = Unit {0}
Brings stores exec (computed t) = Unit {0}
Brings stores exec (stored t loc) = HasPut stores t loc × (loc.exec ≡ exec)
Brings stores exec (staged t) = Unit {0}
Brings stores exec (granted t) = Unit {0}
Brings stores exec (reported t finding) = Says stores t finding × IsFrom exec finding

-- what an executor has out is right about the stores
pub record IsRight (stores : List StoreData) (exec : ℕ) (a : AttemptData) : Type 0 where
  pub inputs : AllZip (InputStands stores) (blocks_of_task (task_of a))
      (task_of a).hand_out.inputs
  pub brings : Brings stores exec a

-- how far an attempt of a save has come that reports this
abbrev pub ReportsAt : Finding → Phase → Type 0
ReportsAt (findings.Result given) phase = phase ≡ phases.Moved
ReportsAt (findings.Device fault) phase = phase ≡ phases.Faulted fault
ReportsAt findings.Denied phase = phase ≡ phases.Denied
ReportsAt finding phase = Unit {0}

-- how far an attempt of a save has come, by what an executor has of it
abbrev pub ComesAt : AttemptData → Phase → Type 0
ComesAt (assigned t got) phase = phase ≡ phases.Given
ComesAt (computed t) phase = phase ≡ phases.Given
ComesAt (stored t loc) phase = Unit {0}
ComesAt (staged t) phase = phase ≡ phases.Staged
ComesAt (granted t) phase = phase ≡ phases.Granted
ComesAt (reported t finding) phase = ReportsAt finding phase

-- a running attempt is that of an executor's attempt, as it was handed out, and isn't told of yet;
-- in a save the core knows how far it has come
pub record IsThatOf (work : WorkData) (exec : ℕ) (a : AttemptData) (r : Running) : Type 0 where
  pub on : r.exec ≡ exec
  pub same : r.hand_out ≡ (task_of a).hand_out
  pub out : r.is_out ≡ true
  pub come : saves work (task_of a).job.goal ≡ true → ComesAt a r.phase

-- where an attempt runs that an executor has out, it runs there; it runs no more where the executor
-- was told lost
abbrev pub RunsThere : WorkData → CoreData → ℕ → AttemptData → Type 0
RunsThere work c exec a =
    IfSome (running_of c (task_of a).hand_out.attempt) (IsThatOf work exec a)

-- an executor has out what runs there
pub record IsOut (w : WorldData) (r : Running) : Type 0 where
  pub attempt : AttemptData
  pub held : held_at w r.exec ≡ Some attempt
  pub same : (task_of attempt).hand_out ≡ r.hand_out

-- every world
pub record IsSoundWorld (work : WorkData) (w : WorldData) : Type 0 where
  -- each executor has a store and may have an attempt out
  pub stores : length w.stores ≡ work.limits.executors
  pub places : length w.held ≡ work.limits.executors
  pub own : (exec : ℕ) → IfSome (slice_get w.stores exec) (λ s. s.exec ≡ exec)
  -- what the tracker knows is so in the stores
  pub tied : AreTied w.stores (core_in w).dag.tracker
  -- a store was wiped no oftener than the plan says by now
  pub due : (exec : ℕ) → generation_at w.stores exec ≤ wipes_due work (core_in w).told exec
  -- what is out is of this job, was handed out in it, and is right about the stores
  pub of_job : (exec : ℕ) → IfSome (held_at w exec) (λ a. (task_of a).job ≡ w.desk.job)
  pub given : (exec : ℕ) → IfSome (held_at w exec)
      (λ a. was_given (core_in w).dag (task_of a).hand_out.attempt ≡ true)
  pub right : (exec : ℕ) → IfSome (held_at w exec) (IsRight w.stores exec)
  -- and so is what is to be told later
  pub shelved : All (λ s. Says w.stores s.report.task s.report.finding) w.desk.shelf
  -- what is out may rest as it does, so only an attempt of a save writes a part and commits it
  pub rests : (exec : ℕ) → IfSome (held_at w exec) (λ a. IsAtRest work (Some a))
  -- while the job runs, what executors have out is what runs and wasn't told of
  pub runs : job_runs (core_in w) ≡ true
      → (exec : ℕ) → IfSome (held_at w exec) (RunsThere work (core_in w) exec)
  pub out : job_runs (core_in w) ≡ true
      → (r : Running) → Contains (core_in w).running r → r.is_out ≡ true → IsOut w r
  -- there are committers exactly where the job saves, and nobody has left
  pub saving : is_save (core_in w).committers ≡ saves work w.desk.job.goal
  pub stays : (core_in w).left_first ≡ None
