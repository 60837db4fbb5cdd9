-- What the evaluation of an action answers.
use Rattle.std.specs.Prelude.{ℕ, ◌≡◌, List, Some}
use Rattle.sc_base.specs.Trees.{Path}
use Rattle.sc_lineage.specs.Actions.{ActionOutcome, prints, saves, faults, never, first_raise, local_results, outcome_of_results}
use Rattle.sc_lineage.specs.ScriptData.{ActionData, WorkData}
use Rattle.sc_compute.specs.declared.evaluation.Evaluated.{Evaluated}
use Rattle.sc_compute.specs.declared.evaluation.Evaluated.TheVariants.{Prints, Saves, Faults, Never}

-- what an action gives, by the results that are computed for its partitions
abbrev pub local_outcome : WorkData → ActionData → ActionOutcome
local_outcome work action = outcome_of_results action (local_results work action)

-- an outcome is that of a save
abbrev pub IsOfSave : ActionOutcome → Type 0
IsOfSave outcome = (dir : Path) × (texts : List (List ℕ)) × (outcome ≡ saves dir texts)

-- an action gives this: its text, a saved directory, its fault, or nothing ever, with the first
-- partition that raises
abbrev pub Gives : WorkData → ActionData → Evaluated → Type 0
Gives work action (Prints printed) = local_outcome work action ≡ prints printed
Gives work action Saves = IsOfSave (local_outcome work action)
Gives work action (Faults fault) = local_outcome work action ≡ faults fault
Gives work action (Never p) =
    (local_outcome work action ≡ never) × (first_raise (local_results work action) ≡ Some p)

-- an answer tells this outcome, which isn't that of a partition that raises
abbrev pub Settles : ActionOutcome → Evaluated → Type 0
Settles outcome (Prints printed) = outcome ≡ prints printed
Settles outcome Saves = IsOfSave outcome
Settles outcome (Faults fault) = outcome ≡ faults fault
Settles outcome (Never p) = ⊥
