-- What the steps of the parser answer.
use Rattle.std.specs.Prelude.{ℕ, ◌≡◌, ◌≢◌, List, [], map, Result, Ok, Err, Vec}
use Rattle.std.specs.declared.alloc.Global.{Global}
use Rattle.sc_script.specs.declared.faults.FaultKind.{FaultKind}
use Rattle.sc_script.specs.declared.faults.FaultKind.TheVariants.{NotText, Limit, Syntax, UnknownName, Twice, IllTyped}
use Rattle.sc_base.specs.declared.refusals.OrMemory.{OrMemory}
use Rattle.sc_base.specs.declared.refusals.OrMemory.TheVariants.{Fault, OutOfMemory}
use Rattle.sc_script.specs.declared.faults.ScriptFault.{ScriptFault}
use Rattle.sc_script.specs.declared.tokens.Token.{Token}
use Rattle.sc_script.specs.declared.trees.Form.{Form}
use Rattle.sc_script.specs.Tokens.{TokenData, HasTokens, IsWithinLimits}
use Rattle.sc_script.specs.Trees.{LineData, tokens_of_line}
use Rattle.sc_script.specs.Lines.{KeepsLimits}
use Rattle.sc_script.specs.Scripts.{FaultsScript, HasOneReading}
use Rattle.sc_script.specs.Views.{token_data_of, form_data_of}

-- why the bytes gave no script: their fault, or want of memory
abbrev pub IsParseCause : List ℕ → OrMemory ScriptFault → Type 0
IsParseCause bytes (Fault fault) = FaultsScript bytes fault
IsParseCause bytes OutOfMemory = Unit {0}

-- all bytes are one script or have one fault
abbrev pub HaveOneReading : Type 0
HaveOneReading = (bytes : List ℕ) → HasOneReading bytes

-- the tokens of a line end before its end
pub record EndsEarly (line : List ℕ) : Type 0 where
  pub tokens : List TokenData
  pub rest : List ℕ
  pub has : HasTokens line tokens rest
  pub within : IsWithinLimits line tokens
  pub more : rest ≢ []

-- why a line isn't all tokens, or passes a limit
abbrev pub IsTokensFault : List ℕ → FaultKind → Type 0
IsTokensFault line NotText = ⊥
IsTokensFault line Limit = KeepsLimits line → ⊥
IsTokensFault line Syntax = EndsEarly line
IsTokensFault line UnknownName = ⊥
IsTokensFault line Twice = ⊥
IsTokensFault line IllTyped = ⊥

-- the tokens of a line that keeps the limits, or why there are none
abbrev pub AreTokensOf : List ℕ → Result (Vec Token Global) (OrMemory FaultKind) → Type 0
AreTokensOf line (Ok tokens) =
    HasTokens line (map token_data_of tokens.items) []
    × IsWithinLimits line (map token_data_of tokens.items)
AreTokensOf line (Err (Fault kind)) = IsTokensFault line kind
AreTokensOf line (Err OutOfMemory) = Unit {0}

-- the form that has these tokens, or that there is none
abbrev pub IsFormOf : List TokenData → Result Form (OrMemory FaultKind) → Type 0
IsFormOf tokens (Ok form) = tokens ≡ tokens_of_line (form_data_of form)
IsFormOf tokens (Err (Fault kind)) =
    (kind ≡ Syntax) × ((form : LineData) → tokens ≡ tokens_of_line form → ⊥)
IsFormOf tokens (Err OutOfMemory) = Unit {0}
