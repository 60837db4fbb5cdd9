-- The causes for which a run ends before it is done, each with what stands then.
use Rattle.std.specs.Prelude.{ℕ, ◌+◌, ◌≡◌, ◌⊎◌, Bool, true, false, List, [], ◌∷◌, ◌++◌, Some, None}
use Rattle.std.specs.Str.{IsUtf8}
use Rattle.sc_base.specs.Outside.{Files, IsQuietSource}
use Rattle.sc_base.specs.Trees.{Path}
use Rattle.sc_base.specs.declared.refusals.OrMemory.TheVariants.{Fault}
use Rattle.sc_lineage.specs.ScriptData.{ScriptData, WorkData}
use Rattle.sc_lineage.specs.declared.nodes.DriverFault.{DriverFault}
use Rattle.sc_plan.specs.Plans.{FaultsPlan}
use Rattle.sc_plan.specs.declared.faults.PlanFault.{PlanFault}
use Rattle.sc_plan.specs.declared.lines.PlanLine.{PlanLine}
use Rattle.sc_core.specs.declared.answers.Abort.{Abort}
use Rattle.sc_core.specs.declared.journals.JobHistory.{JobHistory}
use Rattle.sc_context.specs.Aborts.{IsAborted, IsHalted}
use Rattle.sc_context.specs.Histories.{HasDone}
use Rattle.sc_context.specs.declared.stops.JobFault.TheVariants as job_faults
use Rattle.sc_print.specs.Printing.{CutsShort, EndsOver, HasDoneOver, HasPrinted, StopsAtDriver, StopsAtWrite}
use Rattle.sc_read.specs.Files.{IsUnreadable}
use Rattle.sc_read.specs.Inputs.{IsNextInput}
use Rattle.sc_read.specs.Reads.{plan_read, script_read}
use Rattle.sc_read.specs.declared.stops.Unreadable.{Unreadable}
use Rattle.sc_read.specs.declared.stops.Unreadable.TheVariants.{Missing, Failed}
use Rattle.sc_script.specs.Scripts.{FaultsScript, ReadsScript}
use Rattle.sc_script.specs.declared.faults.ScriptFault.{ScriptFault}
use Rattle.sc_app.specs.Runs.{RunData, HasRead, HasReadWork, IsNextName}
use Rattle.sc_words.specs.Words.{AreTaken, command_of}
use Rattle.sc_words.specs.declared.commands.Command.{Command}

-- the files that saves write to are as they were
abbrev pub NothingSaved : RunData → Type 0
NothingSaved run = run.files_after ≡ run.files_before

-- the sink took nothing, the files are as they were, and no count of these rose
abbrev pub NothingWritten : RunData → Type 0
NothingWritten run = (run.after.sink ≡ run.before.sink) × NothingSaved run

-- no job was begun, and so none was given up
abbrev pub NothingRan : List JobHistory → List JobHistory → Type 0
NothingRan history given_up = (history ≡ []) × (given_up ≡ [])

-- no count of the source rose
abbrev pub NothingMissed : RunData → Type 0
NothingMissed run = IsQuietSource run.before.source run.after.source

-- the words are refused, so they are no command, and nothing was touched
pub record EndsForUsage (run : RunData) (history given_up : List JobHistory)
    : Type 0 where
  pub refused : AreTaken run.words → ⊥
  pub no_command : command_of run.words ≡ None
  pub nothing_read : run.reads ≡ []
  pub nothing_ran : NothingRan history given_up
  pub untouched : run.after ≡ run.before
  pub nothing_saved : NothingSaved run

-- the bytes read as the script have this fault
pub record EndsForScript (run : RunData) (history given_up : List JobHistory)
    (fault : ScriptFault) : Type 0 where
  pub bytes : List ℕ
  pub is : run.reads ≡ script_read bytes ∷ []
  pub faults : FaultsScript bytes fault
  pub quiet : NothingMissed run
  pub nothing_written : NothingWritten run
  pub nothing_ran : NothingRan history given_up

-- the bytes read as the plan, behind a script without a fault, have this fault
pub record EndsForPlan (run : RunData) (history given_up : List JobHistory)
    (fault : PlanFault) : Type 0 where
  pub command : Command
  pub bytes : List ℕ
  pub script : ScriptData
  pub plan_bytes : List ℕ
  pub is_command : command_of run.words ≡ Some command
  pub is : run.reads ≡ script_read bytes ∷ plan_read plan_bytes ∷ []
  pub is_script : ReadsScript bytes script
  pub faults : FaultsPlan command.limits.executors plan_bytes fault
  pub quiet : NothingMissed run
  pub nothing_written : NothingWritten run
  pub nothing_ran : NothingRan history given_up

-- why a name gave no bytes, as the status tells it
abbrev pub why_of : Bool → Unreadable
why_of true = Missing
why_of false = Failed

-- the next name is missing, or couldn't be read
pub record EndsForInput (run : RunData) (history given_up : List JobHistory)
    (name : List ℕ) (missing : Bool) : Type 0 where
  pub is_next : IsNextName run name
  pub cause : IsUnreadable run.before.source run.after.source name (why_of missing)
  pub nothing_written : NothingWritten run
  pub nothing_ran : NothingRan history given_up

-- the input read last isn't text, and those before it are
pub record EndsForText (run : RunData) (history given_up : List JobHistory)
    (name : List ℕ) : Type 0 where
  pub script : ScriptData
  pub plan : List PlanLine
  pub inputs : Files
  pub bytes : List ℕ
  pub read : HasRead run.words run.reads script plan (inputs ++ (name, bytes) ∷ [])
  pub is_next : IsNextInput script inputs name
  pub no_text : IsUtf8 bytes → ⊥
  pub quiet : NothingMissed run
  pub nothing_written : NothingWritten run
  pub nothing_ran : NothingRan history given_up

-- All was read, and a job for an action was aborted, the last that was begun, which shows why. The
-- texts of the actions before it stand, and what they saved; of its own save, where it has one, its
-- directory stands at most.
pub record EndsForAbort (run : RunData) (history given_up : List JobHistory) (abort : Abort)
    : Type 0 where
  pub work : WorkData
  pub read : HasReadWork run.words run.reads work
  pub quiet : NothingMissed run
  pub k : ℕ
  pub printed : HasPrinted work run.before.sink run.after.sink k
  pub aborted : IsAborted work k history given_up abort
  pub over : EndsOver work run.files_before run.files_after history given_up k
      (Fault (job_faults.Aborted abort))

-- all was read, and the results of an action have no value
pub record EndsForDriver (run : RunData) (history given_up : List JobHistory) (k : ℕ)
    (fault : DriverFault) : Type 0 where
  pub work : WorkData
  pub read : HasReadWork run.words run.reads work
  pub quiet : NothingMissed run
  pub stops : StopsAtDriver work run.before.sink run.after.sink k fault
  pub jobs : HasDoneOver work run.files_before run.files_after history given_up (k + 1)

-- All was read, and this directory is there already, to which an action saves, or which is its
-- staging area: a count of the files rose, and nothing in it has changed. The texts of the actions
-- before it stand, and what they saved.
pub record EndsForExists (run : RunData) (history given_up : List JobHistory) (dir : Path)
    : Type 0 where
  pub work : WorkData
  pub read : HasReadWork run.words run.reads work
  pub quiet : NothingMissed run
  pub k : ℕ
  pub printed : HasPrinted work run.before.sink run.after.sink k
  pub jobs : HasDone work history given_up k
  pub over : EndsOver work run.files_before run.files_after history given_up k
      (Fault (job_faults.Exists dir))

-- All was read, and a call on the files of an action that saves failed where these were opened,
-- committed or aborted: a count of the files rose. The texts of the actions before it stand, and
-- what they saved.
pub record EndsForDevice (run : RunData) (history given_up : List JobHistory) (path : Path)
    : Type 0 where
  pub work : WorkData
  pub read : HasReadWork run.words run.reads work
  pub quiet : NothingMissed run
  pub k : ℕ
  pub printed : HasPrinted work run.before.sink run.after.sink k
  pub jobs : IsHalted work k history given_up
  pub over : EndsOver work run.files_before run.files_after history given_up k
      (Fault (job_faults.Device path))

-- all was read, and the sink failed
pub record EndsForWrite (run : RunData) (history given_up : List JobHistory) : Type 0 where
  pub work : WorkData
  pub read : HasReadWork run.words run.reads work
  pub quiet : NothingMissed run
  pub stops : StopsAtWrite work run.before.sink run.after.sink
  pub jobs : HasDoneOver work run.files_before run.files_after history given_up (stops.k + 1)

-- behind the texts of some actions, whose jobs are done, and perhaps jobs of one more
pub record StandsBehind (run : RunData) (history given_up : List JobHistory)
    : Type 0 where
  pub work : WorkData
  pub read : HasReadWork run.words run.reads work
  pub stands : CutsShort work run.before.sink run.after.sink run.files_before run.files_after
      history given_up

-- memory ran out before the first job, or behind the texts of some actions; no count of the source
-- or the sink rose
pub record EndsForMemory (run : RunData) (history given_up : List JobHistory)
    : Type 0 where
  pub quiet : NothingMissed run
  pub stands : (NothingWritten run × NothingRan history given_up)
      ⊎ StandsBehind run history given_up
