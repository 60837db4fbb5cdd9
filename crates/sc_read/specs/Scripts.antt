-- The reading of a run's script.
use Rattle.std.specs.Prelude.{ℕ, ◌≡◌, ◌⊎◌, List, [], ◌∷◌, ◌++◌, Result, Ok, Err}
use Rattle.sc_base.specs.Outside.{SourceState}
use Rattle.sc_base.specs.declared.refusals.OrMemory.{OrMemory}
use Rattle.sc_base.specs.declared.refusals.OrMemory.TheVariants.{Fault, OutOfMemory}
use Rattle.sc_lineage.specs.declared.scripts.Script.{Script}
use Rattle.sc_script.specs.Scripts.{ReadsScript, FaultsScript}
use Rattle.sc_script.specs.declared.faults.ScriptFault.{ScriptFault}
use Rattle.sc_read.specs.declared.reads.Read.{Read}
use Rattle.sc_read.specs.declared.stops.ScriptStop.{ScriptStop}
use Rattle.sc_read.specs.declared.stops.ScriptStop.TheVariants as stops
use Rattle.sc_read.specs.Files.{TakesFile, MissesFile}
use Rattle.sc_read.specs.Reads.{script_read}

-- the bytes under a word were taken as the script, and kept behind what was read before
pub record TakesScript (before after : SourceState) (word : List ℕ) (reads reads' : List Read)
    (bytes : List ℕ) : Type 0 where
  pub file : TakesFile before after word bytes
  pub kept : reads' ≡ reads ++ script_read bytes ∷ []

-- what the reading of a script under a word answers, by what it has then kept
abbrev pub TakesAsScript :
    SourceState → SourceState → List ℕ → List Read → List Read
    → Result Script (OrMemory ScriptStop) → Type 0
TakesAsScript before after word reads reads' (Ok script) =
    (bytes : List ℕ) × TakesScript before after word reads reads' bytes × ReadsScript bytes script
TakesAsScript before after word reads reads' (Err (Fault (stops.Faulty fault))) =
    (bytes : List ℕ) × TakesScript before after word reads reads' bytes × FaultsScript bytes fault
TakesAsScript before after word reads reads' (Err (Fault (stops.Unreadable why))) =
    (reads' ≡ reads) × MissesFile before after word why
TakesAsScript before after word reads reads' (Err OutOfMemory) =
    ((reads' ≡ reads) × (after ≡ before))
    ⊎ ((bytes : List ℕ) × TakesScript before after word reads reads' bytes)

-- what a parser gave, as the end of a reading
abbrev pub script_stop : Result Script (OrMemory ScriptFault) → Result Script (OrMemory ScriptStop)
script_stop (Ok script) = Ok script
script_stop (Err (Fault fault)) = Err (Fault (stops.Faulty fault))
script_stop (Err OutOfMemory) = Err OutOfMemory
