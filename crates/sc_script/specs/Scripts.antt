-- Which bytes are which script, and which fault they have otherwise.
use Rattle.std.specs.Prelude.{ℕ, ◌+◌, ◌≤◌, ◌<◌, ◌≡◌, true, false, List, [], ◌∷◌, length, Result, Ok, Err}
use Rattle.std.specs.Str.{IsUtf8}
use Rattle.sc_value.specs.Lines.{text_lines}
use Rattle.sc_lineage.specs.ScriptData.{ScriptData}
use Rattle.sc_script.specs.declared.faults.FaultKind.{FaultKind}
use Rattle.sc_script.specs.declared.faults.FaultKind.TheVariants.{NotText, Limit}
use Rattle.sc_script.specs.declared.faults.ScriptFault.{ScriptFault}
use Rattle.sc_script.specs.Limits.{script_limit}
use Rattle.sc_script.specs.Lines.{is_skipped, DefinedData, nothing_defined, ReadsLine}

-- What lines, numbered from `first` on, make of what was defined before them, or the fault of the
-- first line that has one. Skipped lines count and add nothing.
pub data ReadsLines :
    DefinedData → ℕ → List (List ℕ) → Result DefinedData ScriptFault → Type 0 where
  no_line : (d : DefinedData) (first : ℕ) → ReadsLines d first [] (Ok d)
  behind_skipped : (d : DefinedData) (first : ℕ) (line : List ℕ) (lines : List (List ℕ))
      (reading : Result DefinedData ScriptFault)
      → is_skipped line ≡ true → ReadsLines d (first + 1) lines reading
      → ReadsLines d first (line ∷ lines) reading
  behind_adding : (d next : DefinedData) (first : ℕ) (line : List ℕ) (lines : List (List ℕ))
      (reading : Result DefinedData ScriptFault)
      → is_skipped line ≡ false → ReadsLine d line (Ok next)
      → ReadsLines next (first + 1) lines reading → ReadsLines d first (line ∷ lines) reading
  at_fault : (d : DefinedData) (first : ℕ) (line : List ℕ) (lines : List (List ℕ))
      (kind : FaultKind)
      → is_skipped line ≡ false → ReadsLine d line (Err kind)
      → ReadsLines d first (line ∷ lines) (Err (record { line = first; kind = kind }))

-- the bytes are this script
pub record ReadsScript (bytes : List ℕ) (script : ScriptData) : Type 0 where
  pub size : length bytes ≤ script_limit
  pub utf8 : IsUtf8 bytes
  pub after : DefinedData
  pub lines : ReadsLines nothing_defined 1 (text_lines bytes) (Ok after)
  pub is : after.script ≡ script

-- the bytes are no script, for this fault
pub data FaultsScript : List ℕ → ScriptFault → Type 0 where
  too_long : (bytes : List ℕ) → script_limit < length bytes
      → FaultsScript bytes (record { line = 0; kind = Limit })
  no_text : (bytes : List ℕ) → length bytes ≤ script_limit → (IsUtf8 bytes → ⊥)
      → FaultsScript bytes (record { line = 0; kind = NotText })
  at_a_line : (bytes : List ℕ) (fault : ScriptFault) → length bytes ≤ script_limit → IsUtf8 bytes
      → ReadsLines nothing_defined 1 (text_lines bytes) (Err fault) → FaultsScript bytes fault

-- what bytes are read as: a script or a fault
abbrev pub IsReading : List ℕ → Result ScriptData ScriptFault → Type 0
IsReading bytes (Ok script) = ReadsScript bytes script
IsReading bytes (Err fault) = FaultsScript bytes fault

-- bytes are one script, or have one fault, and never both
pub record HasOneReading (bytes : List ℕ) : Type 0 where
  pub reading : Result ScriptData ScriptFault
  pub is : IsReading bytes reading
  pub only : (other : Result ScriptData ScriptFault) → IsReading bytes other → other ≡ reading
