-- The reading of a run's fault plan.
use Rattle.std.specs.Prelude.{ℕ, ◌≡◌, ◌⊎◌, List, [], ◌∷◌, ◌++◌, Option, Some, None, Result, Ok, Err}
use Rattle.sc_base.specs.Outside.{Files, SourceState}
use Rattle.sc_base.specs.declared.refusals.OrMemory.{OrMemory}
use Rattle.sc_base.specs.declared.refusals.OrMemory.TheVariants.{Fault, OutOfMemory}
use Rattle.sc_plan.specs.Plans.{ReadsPlan, FaultsPlan}
use Rattle.sc_plan.specs.declared.faults.PlanFault.{PlanFault}
use Rattle.sc_plan.specs.declared.lines.PlanLine.{PlanLine}
use Rattle.sc_plan.specs.declared.plans.Plan.{Plan}
use Rattle.sc_read.specs.declared.reads.Read.{Read}
use Rattle.sc_read.specs.declared.stops.PlanStop.{PlanStop}
use Rattle.sc_read.specs.declared.stops.PlanStop.TheVariants as stops
use Rattle.sc_read.specs.Files.{TakesFile, MissesFile}
use Rattle.sc_read.specs.Reads.{IsShown, plan_read}

-- the bytes under a name were taken as the plan, and kept behind what was read before
pub record TakesPlan (before after : SourceState) (name : List ℕ) (reads reads' : List Read)
    (bytes : List ℕ) : Type 0 where
  pub file : TakesFile before after name bytes
  pub kept : reads' ≡ reads ++ plan_read bytes ∷ []

-- what the reading of a plan of this name, for so many executors, answers, by what it has then kept
abbrev pub TakesAsNamedPlan :
    SourceState → SourceState → List ℕ → ℕ → List Read → List Read
    → Result Plan (OrMemory PlanStop) → Type 0
TakesAsNamedPlan before after name executors reads reads' (Ok plan) =
    (bytes : List ℕ) × TakesPlan before after name reads reads' bytes
    × ReadsPlan executors bytes plan
TakesAsNamedPlan before after name executors reads reads' (Err (Fault (stops.Faulty fault))) =
    (bytes : List ℕ) × TakesPlan before after name reads reads' bytes
    × FaultsPlan executors bytes fault
TakesAsNamedPlan before after name executors reads reads'
    (Err (Fault (stops.Unreadable n why))) =
    (n ≡ name) × (reads' ≡ reads) × MissesFile before after name why
TakesAsNamedPlan before after name executors reads reads' (Err OutOfMemory) =
    ((reads' ≡ reads) × (after ≡ before))
    ⊎ ((bytes : List ℕ) × TakesPlan before after name reads reads' bytes)

-- the same where a plan may be named; where none is, nothing is read and no fault is planned
abbrev pub TakesAsPlan :
    SourceState → SourceState → Option (List ℕ) → ℕ → List Read → List Read
    → Result Plan (OrMemory PlanStop) → Type 0
TakesAsPlan before after (Some name) executors reads reads' answer =
    TakesAsNamedPlan before after name executors reads reads' answer
TakesAsPlan before after None executors reads reads' (Ok plan) =
    (plan ≡ []) × (reads' ≡ reads) × (after ≡ before)
TakesAsPlan before after None executors reads reads' (Err stop) = ⊥

-- what a parser gave, as the end of a reading
abbrev pub plan_stop : Result Plan (OrMemory PlanFault) → Result Plan (OrMemory PlanStop)
plan_stop (Ok plan) = Ok plan
plan_stop (Err (Fault fault)) = Err (Fault (stops.Faulty fault))
plan_stop (Err OutOfMemory) = Err OutOfMemory

-- the plan of a run for so many executors: what its bytes are where one is named, or the empty one
abbrev pub IsPlanOf : Option (List ℕ) → ℕ → Option (List ℕ) → List PlanLine → Type 0
IsPlanOf None executors bytes plan = (bytes ≡ None) × (plan ≡ [])
IsPlanOf (Some name) executors None plan = ⊥
IsPlanOf (Some name) executors (Some bytes) plan = ReadsPlan executors bytes plan

-- a plan that was read is named, and where a source shows its files, these are its bytes
abbrev pub IsPlanShown : Option Files → Option (List ℕ) → Option (List ℕ) → Type 0
IsPlanShown shown named None = Unit {0}
IsPlanShown shown None (Some bytes) = ⊥
IsPlanShown shown (Some name) (Some bytes) = IsShown shown name bytes
