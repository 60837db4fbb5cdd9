-- What a run was given, what it read, and what it left.
use Rattle.std.specs.Prelude.{ℕ, ◌≡◌, ◌⊎◌, List, [], ◌∷◌, ◌++◌, Option, Some, None}
use Rattle.std.specs.Option.{option_map}
use Rattle.sc_base.specs.Outside.{Files, FilesState, Outside, HasAsked}
use Rattle.sc_ids.specs.declared.limits.Limits.{Limits}
use Rattle.sc_lineage.specs.ScriptData.{ScriptData, WorkData, IsSoundWork}
use Rattle.sc_plan.specs.declared.lines.PlanLine.{PlanLine}
use Rattle.sc_read.specs.declared.reads.Read.{Read}
use Rattle.sc_read.specs.Inputs.{IsNextInput}
use Rattle.sc_read.specs.Plans.{IsPlanOf, IsPlanShown}
use Rattle.sc_read.specs.Reads.{Taken, script_read, reads_of, names_of_reads, IsShown, AreFirstInputs}
use Rattle.sc_script.specs.Scripts.{ReadsScript}
use Rattle.sc_app.specs.declared.ran.Status.{Status}
use Rattle.sc_app.specs.declared.ran.Status.TheVariants as statuses
use Rattle.sc_words.specs.Words.{command_of}
use Rattle.sc_words.specs.declared.commands.Command.{Command}

-- a run, but for its status and its jobs
pub record RunData : Type 0 where
  -- the words of the command line
  pub words : List (List ℕ)
  -- what was read, in order
  pub reads : List Read
  -- the outside before and after
  pub before : Outside
  pub after : Outside
  -- the files that saves write to, before and after
  pub files_before : FilesState
  pub files_after : FilesState

-- a run by its words, its reads, the outside and the files
abbrev pub run_of :
    List (List ℕ) → List Read → Outside → Outside → FilesState → FilesState → RunData
run_of words reads before after files_before files_after =
    record {
      words = words;
      reads = reads;
      before = before;
      after = after;
      files_before = files_before;
      files_after = files_after;
    }

-- the reads are those of a script, of the plan where the words name one, and of these inputs behind
-- them; with no plan named the plan is the empty one
pub record HasRead (words : List (List ℕ)) (reads : List Read) (script : ScriptData)
    (plan : List PlanLine) (inputs : Files) : Type 0 where
  pub command : Command
  pub bytes : List ℕ
  pub plan_bytes : Option (List ℕ)
  pub is_command : command_of words ≡ Some command
  pub is : reads ≡ reads_of (record { script = bytes; plan = plan_bytes; inputs = inputs })
  pub is_script : ReadsScript bytes script
  pub is_plan : IsPlanOf command.plan command.limits.executors plan_bytes plan

-- the limits that words set
abbrev pub limits_of : List (List ℕ) → Option Limits
limits_of words = option_map (λ command. command.limits) (command_of words)

-- A script was read, the plan where one is named, and each input that the script names, once, in
-- order of first naming, all of them text. The limits are those that the words set.
pub record HasReadWork (words : List (List ℕ)) (reads : List Read) (work : WorkData)
    : Type 0 where
  pub read : HasRead words reads work.script work.plan work.inputs
  pub sound : IsSoundWork work
  pub limits : limits_of words ≡ Some work.limits

-- what was read behind a script: no input, or the first ones that it names, behind the plan that
-- a command names, where it names one
abbrev pub ReadsInputs : Command → ScriptData → Option Files → Taken → Type 0
ReadsInputs command script shown taken =
    (taken.inputs ≡ [])
    ⊎ ((plan : List PlanLine)
    × IsPlanOf command.plan command.limits.executors taken.plan plan
    × AreFirstInputs script shown taken.inputs)

-- the script was read under its word, behind it the plan under its own, where one is named, and
-- then the first inputs that the script names; where the source shows its files, these are their
-- bytes
pub record ReadsInOrder (run : RunData) : Type 0 where
  pub command : Command
  pub taken : Taken
  pub is_command : command_of run.words ≡ Some command
  pub is : run.reads ≡ reads_of taken
  pub are_shown : IsShown run.before.source.shown command.script taken.script
  pub plan_shown : IsPlanShown run.before.source.shown command.plan taken.plan
  pub of_script : ((taken.plan ≡ None) × (taken.inputs ≡ []))
      ⊎ ((script : ScriptData) × ReadsScript taken.script script
      × ReadsInputs command script run.before.source.shown taken)

-- nothing was read, or the script, then the plan and then inputs
abbrev pub AreReads : RunData → Type 0
AreReads run = (run.reads ≡ []) ⊎ ReadsInOrder run

-- the name that was asked for in vain
abbrev pub name_missed : Status → List (List ℕ)
name_missed (statuses.Input name missing) = name ∷ []
name_missed status = []

-- the source was asked for what was read, and then for what it didn't give, each once and in order
abbrev pub AsksOnce : RunData → Status → Type 0
AsksOnce run status =
    (command : Command) → command_of run.words ≡ Some command
    → HasAsked run.before.source run.after.source
    (names_of_reads command.script command.plan run.reads ++ name_missed status)

-- the script was read and has no fault, and the plan has this name and is to be read next
pub record IsNextPlan (run : RunData) (name : List ℕ) : Type 0 where
  pub command : Command
  pub bytes : List ℕ
  pub script : ScriptData
  pub is_command : command_of run.words ≡ Some command
  pub is : run.reads ≡ script_read bytes ∷ []
  pub is_script : ReadsScript bytes script
  pub named : command.plan ≡ Some name

-- the name that is to be read next: the script's, the plan's, or the next that the script names
abbrev pub IsNextName : RunData → List ℕ → Type 0
IsNextName run name =
    ((run.reads ≡ []) × ((command : Command) × (command_of run.words ≡ Some command)
    × (command.script ≡ name)))
    ⊎ (IsNextPlan run name
    ⊎ ((script : ScriptData) × (plan : List PlanLine) × (inputs : Files)
    × HasRead run.words run.reads script plan inputs × IsNextInput script inputs name))
