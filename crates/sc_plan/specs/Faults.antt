-- What the steps of the parser answer.
use Rattle.std.specs.Prelude.{ℕ, Result, Ok, Err, List}
use Rattle.sc_base.specs.declared.refusals.OrMemory.{OrMemory}
use Rattle.sc_base.specs.declared.refusals.OrMemory.TheVariants.{Fault, OutOfMemory}
use Rattle.sc_plan.specs.declared.faults.PlanFaultKind.{PlanFaultKind}
use Rattle.sc_plan.specs.declared.faults.PlanFault.{PlanFault}
use Rattle.sc_plan.specs.Plans.{FaultsPlan}

-- what was answered is so, unless memory ran out
abbrev pub IsAnswer : {X Y F : Type 0}
    → (X → Y) → (Result Y F → Type 0) → Result X (OrMemory F) → Type 0
IsAnswer view Is (Ok x) = Is (Ok (view x))
IsAnswer view Is (Err (Fault f)) = Is (Err f)
IsAnswer view Is (Err OutOfMemory) = Unit {0}

-- a fault of a plan, by what its line of a number answered
abbrev pub at_line : ℕ → OrMemory PlanFaultKind → OrMemory PlanFault
at_line line (Fault kind) = Fault (record { line = line; kind = kind })
at_line line OutOfMemory = OutOfMemory

-- why the bytes gave no plan: their fault, or want of memory
abbrev pub IsParseCause : ℕ → List ℕ → OrMemory PlanFault → Type 0
IsParseCause executors bytes (Fault fault) = FaultsPlan executors bytes fault
IsParseCause executors bytes OutOfMemory = Unit {0}
