-- What the steps of the parser answer.
use Rattle.std.specs.Prelude.{ℕ, Result, Ok, Err}
use Rattle.sc_base.specs.declared.refusals.OrMemory.{OrMemory}
use Rattle.sc_base.specs.declared.refusals.OrMemory.TheVariants.{Fault, OutOfMemory}
use Rattle.sc_script.specs.declared.faults.FaultKind.{FaultKind}
use Rattle.sc_script.specs.declared.faults.ScriptFault.{ScriptFault}

-- what was answered is so, unless memory ran out
abbrev pub IsAnswer : {X Y F : Type 0}
    → (X → Y) → (Result Y F → Type 0) → Result X (OrMemory F) → Type 0
IsAnswer view Is (Ok x) = Is (Ok (view x))
IsAnswer view Is (Err (Fault f)) = Is (Err f)
IsAnswer view Is (Err OutOfMemory) = Unit {0}

-- a fault of a line in place of another one
abbrev pub or_fault : {F : Type 0} → FaultKind → OrMemory F → OrMemory FaultKind
or_fault kind (Fault f) = Fault kind
or_fault kind OutOfMemory = OutOfMemory

-- a fault of a script, by what its line of a number answered
abbrev pub at_line : ℕ → OrMemory FaultKind → OrMemory ScriptFault
at_line line (Fault kind) = Fault (record { line = line; kind = kind })
at_line line OutOfMemory = OutOfMemory
