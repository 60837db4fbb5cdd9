-- What a run tells of what it read: nothing that refuses it is passed over.
use Rattle.std.specs.Prelude.{ℕ, ◌≡◌, ◌≢◌, ◌<◌, ◌⊎◌, true, false, List, [], take, Some, slice_get, Contains}
use Rattle.std.specs.List.{All}
use Rattle.std.specs.Str.{IsUtf8}
use Rattle.sc_base.specs.Trees.{Path, Tree, has_dir}
use Rattle.sc_lineage.specs.Actions.{action_outcome, faults, never, HasText}
use Rattle.sc_lineage.specs.Saves.{AreApart, SavesAt, saved_by}
use Rattle.sc_lineage.specs.ScriptData.{ActionData, WorkData}
use Rattle.sc_lineage.specs.declared.nodes.DriverFault.{DriverFault}
use Rattle.sc_jobs.specs.JobData.{is_saving}
use Rattle.sc_output.specs.Calls.{IsNotDone}
use Rattle.sc_plan.specs.Plans.{FaultsPlan}
use Rattle.sc_plan.specs.declared.faults.PlanFault.{PlanFault}
use Rattle.sc_core.specs.declared.answers.Abort.{Abort}
use Rattle.sc_core.specs.declared.answers.Abort.TheVariants as aborts
use Rattle.sc_read.specs.declared.reads.Read.{Read}
use Rattle.sc_read.specs.Reads.{Taken, reads_of}
use Rattle.sc_script.specs.declared.faults.ScriptFault.{ScriptFault}
use Rattle.sc_script.specs.Scripts.{FaultsScript}
use Rattle.sc_app.specs.declared.ran.Status.{Status}
use Rattle.sc_app.specs.declared.ran.Status.TheVariants as statuses
use Rattle.sc_app.specs.Runs.{RunData, HasReadWork}
use Rattle.sc_words.specs.Words.{AreTaken, command_of}
use Rattle.sc_words.specs.declared.commands.Command.{Command}

-- the status is this one, unless memory ran out
abbrev pub IsUnlessMemory : Status → Status → Type 0
IsUnlessMemory told status = (status ≡ told) ⊎ (status ≡ statuses.OutOfMemory)

-- a call on files failed
abbrev pub TellsDevice : Status → Type 0
TellsDevice status = (path : Path) × (status ≡ statuses.Device path)

-- a directory was there already, or a call on files failed
abbrev pub TellsFiles : Status → Type 0
TellsFiles status =
    ((dir : Path) × (status ≡ statuses.OutputExists dir)) ⊎ TellsDevice status

-- the sink failed, or the files did
abbrev pub TellsOutside : Status → Type 0
TellsOutside status = (status ≡ statuses.WriteFault) ⊎ TellsFiles status

-- the status is this one, unless memory ran out, or the sink or the files failed before
abbrev pub IsUnlessEarlier : Status → Status → Type 0
IsUnlessEarlier told status = IsUnlessMemory told status ⊎ TellsOutside status

-- the status is Usage only where `clap` refuses the words, and there always, unless memory ran out
abbrev pub TellsUsage : List (List ℕ) → Status → Type 0
TellsUsage words status = (status ≡ statuses.Usage → AreTaken words → ⊥)
    × ((AreTaken words → ⊥) → IsUnlessMemory statuses.Usage status)

-- if the bytes read as the script have a fault, the status is that fault
abbrev pub TellsFault : List Read → Status → Type 0
TellsFault reads status = (taken : Taken) (fault : ScriptFault)
    → reads ≡ reads_of taken → FaultsScript taken.script fault
    → IsUnlessMemory (statuses.Script fault) status

-- if the bytes read as the plan have a fault, the status is that fault
abbrev pub TellsPlanFault : List (List ℕ) → List Read → Status → Type 0
TellsPlanFault words reads status =
    (command : Command) (taken : Taken) (bytes : List ℕ) (fault : PlanFault)
    → command_of words ≡ Some command → reads ≡ reads_of taken → taken.plan ≡ Some bytes
    → FaultsPlan command.limits.executors bytes fault
    → IsUnlessMemory (statuses.Plan fault) status

-- if an input that was read isn't text, the status has its name
abbrev pub TellsNotText : List Read → Status → Type 0
TellsNotText reads status = (taken : Taken) (name content : List ℕ)
    → reads ≡ reads_of taken → Contains taken.inputs (name, content)
    → (IsUtf8 content → ⊥) → IsUnlessMemory (statuses.NotText name) status

-- action k is the first without a text
pub record IsFirstWithout (work : WorkData) (k : ℕ) (action : ActionData) : Type 0 where
  pub texts : All (HasText work) (take k work.script.actions)
  pub is_action : slice_get work.script.actions k ≡ Some action

-- a job was aborted
abbrev pub TellsAbort : Status → Type 0
TellsAbort status = (abort : Abort) × (status ≡ statuses.Aborted abort)

-- if a partition of the first action without a text raises, a job was aborted, unless memory ran
-- out or something outside failed
abbrev pub TellsNever : List (List ℕ) → List Read → Status → Type 0
TellsNever words reads status = (work : WorkData) (k : ℕ) (action : ActionData)
    → HasReadWork words reads work → IsFirstWithout work k action
    → action_outcome work action ≡ never
    → TellsAbort status ⊎ ((status ≡ statuses.OutOfMemory) ⊎ TellsOutside status)

-- if the first action without a text has a fault of the driver, the status says so, unless a job
-- was aborted
abbrev pub TellsDriverFault : List (List ℕ) → List Read → Status → Type 0
TellsDriverFault words reads status =
    (work : WorkData) (k : ℕ) (action : ActionData) (fault : DriverFault)
    → HasReadWork words reads work → IsFirstWithout work k action
    → action_outcome work action ≡ faults fault
    → TellsAbort status ⊎ IsUnlessEarlier (statuses.DriverFault k fault) status

-- The files show, and the saved directories are kept apart. Behind actions that all have texts this
-- directory is there when action k is to save to it, and none was when one before it was to.
pub record IsFirstInTheWay (run : RunData) (work : WorkData) (k : ℕ) (dir : Path) : Type 0 where
  pub opening : Tree
  pub shown : run.files_before.shown ≡ Some opening
  pub apart : AreApart work.script opening
  pub texts : All (HasText work) (take k work.script.actions)
  pub saves : SavesAt work k dir
  pub there : has_dir (saved_by work k opening) dir ≡ true
  pub first : (i : ℕ) (other : Path) → i < k → SavesAt work i other
      → has_dir (saved_by work i opening) other ≡ false

-- if a directory is there when an action is to save to it, the status says so, unless a job was
-- aborted, or memory ran out, or the sink or a call on files failed before
abbrev pub TellsExists : RunData → Status → Type 0
TellsExists run status = (work : WorkData) (k : ℕ) (dir : Path)
    → HasReadWork run.words run.reads work → IsFirstInTheWay run work k dir
    → TellsAbort status ⊎ (IsUnlessMemory (statuses.OutputExists dir) status
    ⊎ ((status ≡ statuses.WriteFault) ⊎ TellsDevice status))

-- no action of a work is never
abbrev pub HasNoNever : WorkData → Type 0
HasNoNever work = (action : ActionData) → Contains work.script.actions action
    → action_outcome work action ≢ never

-- some action of a work saves
abbrev pub SavesSome : WorkData → Type 0
SavesSome work = (action : ActionData) × Contains work.script.actions action
    × (is_saving action ≡ true)

-- If the plan has no line, no executor is lost and no stage is given up; and if moreover no action
-- is never, a task fails too often only where some action saves, and the faults of the files rose,
-- or where these don't show the clashes.
abbrev pub TellsNoFailure : RunData → Status → Type 0
TellsNoFailure run status = (work : WorkData) → HasReadWork run.words run.reads work
    → work.plan ≡ []
    → (status ≢ statuses.Aborted aborts.NoExecutor)
    × ((stage : ℕ) → status ≢ statuses.Aborted (aborts.StageLimit stage))
    × (HasNoNever work → (stage attempt partition : ℕ)
    → status ≡ statuses.Aborted (aborts.TaskLimit stage attempt partition)
    → SavesSome work × IsNotDone run.files_before run.files_after)
