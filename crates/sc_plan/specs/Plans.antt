-- Which bytes are which plan, and which fault they have otherwise.
use Rattle.std.specs.Prelude.{ℕ, ◌+◌, ◌≤◌, ◌<◌, ◌≡◌, List, [], ◌∷◌, length, Result, Ok, Err}
use Rattle.std.specs.Str.{IsUtf8}
use Rattle.sc_value.specs.Lines.{text_lines}
use Rattle.sc_plan.specs.declared.faults.PlanFaultKind.{PlanFaultKind}
use Rattle.sc_plan.specs.declared.faults.PlanFaultKind.TheVariants.{NotText, Limit}
use Rattle.sc_plan.specs.declared.faults.PlanFault.{PlanFault}
use Rattle.sc_plan.specs.declared.lines.PlanLine.{PlanLine}
use Rattle.sc_plan.specs.Limits.{plan_limit}
use Rattle.sc_plan.specs.LineReading.{next_read}

-- What lines, numbered from `first` on, make of the plan lines before them, or the fault of the
-- first line that has one. Skipped lines count and add nothing.
pub data ReadsLines :
    ℕ → List PlanLine → ℕ → List (List ℕ) → Result (List PlanLine) PlanFault → Type 0 where
  no_line : (executors : ℕ) (before : List PlanLine) (first : ℕ)
      → ReadsLines executors before first [] (Ok before)
  behind_line : (executors : ℕ) (before next : List PlanLine) (first : ℕ) (line : List ℕ)
      (lines : List (List ℕ)) (reading : Result (List PlanLine) PlanFault)
      → next_read executors before line ≡ Ok next
      → ReadsLines executors next (first + 1) lines reading
      → ReadsLines executors before first (line ∷ lines) reading
  at_fault : (executors : ℕ) (before : List PlanLine) (first : ℕ) (line : List ℕ)
      (lines : List (List ℕ)) (kind : PlanFaultKind)
      → next_read executors before line ≡ Err kind
      → ReadsLines executors before first (line ∷ lines)
      (Err (record { line = first; kind = kind }))

-- the bytes are the plan of these lines, for so many executors
pub record ReadsPlan (executors : ℕ) (bytes : List ℕ) (plan : List PlanLine) : Type 0 where
  pub size : length bytes ≤ plan_limit
  pub utf8 : IsUtf8 bytes
  pub lines : ReadsLines executors [] 1 (text_lines bytes) (Ok plan)

-- the bytes are no plan for so many executors, for this fault
pub data FaultsPlan : ℕ → List ℕ → PlanFault → Type 0 where
  too_long : (executors : ℕ) (bytes : List ℕ) → plan_limit < length bytes
      → FaultsPlan executors bytes (record { line = 0; kind = Limit })
  no_text : (executors : ℕ) (bytes : List ℕ) → length bytes ≤ plan_limit → (IsUtf8 bytes → ⊥)
      → FaultsPlan executors bytes (record { line = 0; kind = NotText })
  at_a_line : (executors : ℕ) (bytes : List ℕ) (fault : PlanFault) → length bytes ≤ plan_limit
      → IsUtf8 bytes → ReadsLines executors [] 1 (text_lines bytes) (Err fault)
      → FaultsPlan executors bytes fault

-- what bytes are read as: a plan or a fault
abbrev pub IsReading : ℕ → List ℕ → Result (List PlanLine) PlanFault → Type 0
IsReading executors bytes (Ok plan) = ReadsPlan executors bytes plan
IsReading executors bytes (Err fault) = FaultsPlan executors bytes fault

-- bytes are one plan, or have one fault, and never both
pub record HasOneReading (executors : ℕ) (bytes : List ℕ) : Type 0 where
  pub reading : Result (List PlanLine) PlanFault
  pub is : IsReading executors bytes reading
  pub only : (other : Result (List PlanLine) PlanFault)
      → IsReading executors bytes other → other ≡ reading

-- all bytes are one plan or have one fault, for any number of executors
abbrev pub PlansHaveOneReading : Type 0
PlansHaveOneReading = (executors : ℕ) (bytes : List ℕ) → HasOneReading executors bytes
