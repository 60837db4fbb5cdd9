-- The reading of the inputs that a script names.
use Rattle.std.specs.Prelude.{ℕ, ◌≡◌, ◌⊎◌, List, [], ◌∷◌, ◌++◌, length, map, Some, slice_get, Result, Ok, Err}
use Rattle.std.specs.Str.{IsUtf8}
use Rattle.sc_base.specs.Outside.{Files, SourceState, HasAsked, IsQuietSource}
use Rattle.sc_base.specs.declared.refusals.OrMemory.{OrMemory}
use Rattle.sc_base.specs.declared.refusals.OrMemory.TheVariants.{Fault, OutOfMemory}
use Rattle.sc_ids.specs.declared.limits.Limits.{Limits}
use Rattle.sc_lineage.specs.ScriptData.{ScriptData, input_names, name_of_input, AreTexts}
use Rattle.sc_lineage.specs.declared.inputs.Input.{Input}
use Rattle.sc_lineage.specs.declared.works.Work.{Work}
use Rattle.sc_plan.specs.declared.lines.PlanLine.{PlanLine}
use Rattle.sc_read.specs.declared.reads.Read.{Read}
use Rattle.sc_read.specs.declared.stops.InputStop.{InputStop}
use Rattle.sc_read.specs.declared.stops.InputStop.TheVariants as stops
use Rattle.sc_read.specs.declared.stops.Unreadable.{Unreadable}
use Rattle.sc_read.specs.Files.{IsUnreadable, MissesFile, TakesFile}
use Rattle.sc_read.specs.Reads.{input_read, AreFirstInputs}

-- the first inputs that a script names were asked for once each, and kept behind other reads
pub record TakesInputs (script : ScriptData) (before after : SourceState) (reads reads' : List Read)
    (inputs : Files) : Type 0 where
  pub first : AreFirstInputs script before.shown inputs
  pub kept : reads' ≡ reads ++ map input_read inputs
  pub asked : HasAsked before after (map name_of_input inputs)
  pub quiet : IsQuietSource before after

-- the inputs before one of this name are texts, and it is the next that the script names
pub record IsNextInput (script : ScriptData) (inputs : Files) (name : List ℕ) : Type 0 where
  pub texts : AreTexts inputs
  pub next : slice_get (input_names script) (length inputs) ≡ Some name

-- the next input of a script is missing, or couldn't be read
pub record StopsAtFile (script : ScriptData) (before after : SourceState) (reads reads' : List Read)
    (name : List ℕ) (why : Unreadable) : Type 0 where
  pub inputs : Files
  pub first : AreFirstInputs script before.shown inputs
  pub is_next : IsNextInput script inputs name
  pub kept : reads' ≡ reads ++ map input_read inputs
  pub asked : HasAsked before after (map name_of_input inputs ++ name ∷ [])
  pub cause : IsUnreadable before after name why

-- the next input of a script was taken and isn't text
pub record StopsAtText (script : ScriptData) (before after : SourceState) (reads reads' : List Read)
    (name : List ℕ) : Type 0 where
  pub inputs : Files
  pub bytes : List ℕ
  pub is_next : IsNextInput script inputs name
  pub taken : TakesInputs script before after reads reads' (inputs ++ (name, bytes) ∷ [])
  pub no_text : IsUtf8 bytes → ⊥

-- the input of a name with these bytes, or that they aren't text
abbrev pub IsInputOf : List ℕ → List ℕ → Result Input (OrMemory InputStop) → Type 0
IsInputOf name bytes (Ok input) = (input ≡ (name, bytes)) × IsUtf8 bytes
IsInputOf name bytes (Err (Fault (stops.Unreadable n why))) = ⊥
IsInputOf name bytes (Err (Fault (stops.NotText n))) = (n ≡ name) × (IsUtf8 bytes → ⊥)
IsInputOf name bytes (Err OutOfMemory) = Unit {0}

-- a file was taken as the input of its name, and kept behind what was read before
pub record TakesInput (before after : SourceState) (name : List ℕ) (reads reads' : List Read)
    (bytes : List ℕ) : Type 0 where
  pub file : TakesFile before after name bytes
  pub kept : reads' ≡ reads ++ input_read (name, bytes) ∷ []

-- what the reading of one input answers, by what it has then kept
abbrev pub TakesAsInput :
    SourceState → SourceState → List ℕ → List Read → List Read
    → Result Input (OrMemory InputStop) → Type 0
TakesAsInput before after name reads reads' (Ok input) =
    (input.0 ≡ name) × TakesInput before after name reads reads' input.1 × IsUtf8 input.1
TakesAsInput before after name reads reads' (Err (Fault (stops.Unreadable n why))) =
    (n ≡ name) × (reads' ≡ reads) × MissesFile before after name why
TakesAsInput before after name reads reads' (Err (Fault (stops.NotText n))) =
    (n ≡ name)
    × ((bytes : List ℕ) × TakesInput before after name reads reads' bytes × (IsUtf8 bytes → ⊥))
TakesAsInput before after name reads reads' (Err OutOfMemory) =
    ((reads' ≡ reads) × (after ≡ before))
    ⊎ ((bytes : List ℕ) × TakesInput before after name reads reads' bytes)

-- what the reading of a script's inputs under a plan and limits answers, by what it has then kept
abbrev pub TakesAsWork :
    ScriptData → List PlanLine → Limits → SourceState → SourceState → List Read → List Read
    → Result Work (OrMemory InputStop) → Type 0
TakesAsWork script plan limits before after reads reads' (Ok work) =
    (work.script ≡ script) × (work.plan ≡ plan) × (work.limits ≡ limits)
    × TakesInputs script before after reads reads' work.inputs
TakesAsWork script plan limits before after reads reads'
    (Err (Fault (stops.Unreadable name why))) =
    StopsAtFile script before after reads reads' name why
TakesAsWork script plan limits before after reads reads' (Err (Fault (stops.NotText name))) =
    StopsAtText script before after reads reads' name
TakesAsWork script plan limits before after reads reads' (Err OutOfMemory) =
    (inputs : Files) × TakesInputs script before after reads reads' inputs
