-- Runs with nothing to refuse.
use Rattle.std.specs.Prelude.{ℕ, ◌≡◌, ◌≢◌, ◌⊎◌, List, Some, None, Contains}
use Rattle.sc_base.specs.Counts.{Rose}
use Rattle.sc_base.specs.Lists.{content_of}
use Rattle.sc_base.specs.Outside.{Files}
use Rattle.sc_base.specs.Trees.{Tree}
use Rattle.sc_lineage.specs.Saves.{CanSaveAll}
use Rattle.sc_lineage.specs.ScriptData.{AreTexts, ScriptData, input_names}
use Rattle.sc_plan.specs.Plans.{FaultsPlan}
use Rattle.sc_plan.specs.declared.faults.PlanFault.{PlanFault}
use Rattle.sc_read.specs.Reads.{Taken, reads_of}
use Rattle.sc_script.specs.declared.faults.ScriptFault.{ScriptFault}
use Rattle.sc_script.specs.Scripts.{FaultsScript, ReadsScript}
use Rattle.sc_app.specs.declared.ran.Status.{Status}
use Rattle.sc_app.specs.declared.ran.Status.TheVariants as statuses
use Rattle.sc_app.specs.Runs.{RunData}
use Rattle.sc_words.specs.Words.{command_of}
use Rattle.sc_words.specs.declared.commands.Command.{Command}

-- the source shows its files, and the script, the plan that is named, and each input that the
-- script names are among them
pub record AreAllThere (run : RunData) : Type 0 where
  pub files : Files
  pub shown : run.before.source.shown ≡ Some files
  pub script : (command : Command) → command_of run.words ≡ Some command
      → content_of files command.script ≢ None
  pub plan : (command : Command) (name : List ℕ) → command_of run.words ≡ Some command
      → command.plan ≡ Some name → content_of files name ≢ None
  pub inputs : (taken : Taken) (script : ScriptData) (name : List ℕ) → run.reads ≡ reads_of taken
      → ReadsScript taken.script script → Contains (input_names script) name
      → content_of files name ≢ None

-- The files show, and the script that was read can save all: its directories are apart, none of
-- them is there, and none is saved twice.
pub record HasRoom (run : RunData) : Type 0 where
  pub opening : Tree
  pub shown : run.files_before.shown ≡ Some opening
  pub free : (taken : Taken) (script : ScriptData) → run.reads ≡ reads_of taken
      → ReadsScript taken.script script → CanSaveAll script opening

-- the words are a command, nothing failed outside, each named file is there, no directory that is
-- saved to is there, and what was read is a script, a plan where one is named, and texts
pub record IsGood (run : RunData) : Type 0 where
  pub command : command_of run.words ≢ None
  pub no_fault : Rose run.before.source.faults run.after.source.faults → ⊥
  pub there : (Rose run.before.source.misses run.after.source.misses → ⊥) ⊎ AreAllThere run
  pub no_write_fault : Rose run.before.sink.faults run.after.sink.faults → ⊥
  pub no_file_fault : Rose run.files_before.faults run.files_after.faults → ⊥
  pub room : (Rose run.files_before.clashes run.files_after.clashes → ⊥) ⊎ HasRoom run
  pub script : (taken : Taken) (fault : ScriptFault) → run.reads ≡ reads_of taken
      → FaultsScript taken.script fault → ⊥
  pub plan : (command : Command) (taken : Taken) (bytes : List ℕ) (fault : PlanFault)
      → command_of run.words ≡ Some command → run.reads ≡ reads_of taken
      → taken.plan ≡ Some bytes → FaultsPlan command.limits.executors bytes fault → ⊥
  pub texts : (taken : Taken) → run.reads ≡ reads_of taken → AreTexts taken.inputs

-- such a run is done, or memory ran out, or a job was aborted, or the results of an action have no
-- value together, which its status tells
abbrev pub EndsWell : Status → Type 0
EndsWell statuses.Done = Unit {0}
EndsWell statuses.Usage = ⊥
EndsWell (statuses.Script fault) = ⊥
EndsWell (statuses.Plan fault) = ⊥
EndsWell (statuses.Input name missing) = ⊥
EndsWell (statuses.Aborted abort) = Unit {0}
EndsWell (statuses.DriverFault k fault) = Unit {0}
EndsWell (statuses.OutputExists dir) = ⊥
EndsWell (statuses.Device path) = ⊥
EndsWell statuses.WriteFault = ⊥
EndsWell statuses.OutOfMemory = Unit {0}
EndsWell (statuses.NotText name) = ⊥
