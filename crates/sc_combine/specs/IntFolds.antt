-- Numbers put together by group, found with numbers alone.
use Rattle.std.specs.Prelude.{ℤ, ◌≡◌, List, map, Option, Some, None, Result, Ok, Err}
use Rattle.sc_base.specs.declared.refusals.OrMemory.{OrMemory}
use Rattle.sc_base.specs.declared.refusals.OrMemory.TheVariants.{Fault, OutOfMemory}
use Rattle.sc_value.specs.Datum.{Datum, number}
use Rattle.sc_expr.specs.declared.exprs.Raise.{Raise}
use Rattle.sc_batch.specs.declared.at_ints.Stop.{Stop}
use Rattle.sc_batch.specs.declared.at_ints.Stop.TheVariants.{Raised, Beyond}
use Rattle.sc_lineage.specs.Keyed.{Side}

-- the numbers that were found are these values, or the raise is theirs
abbrev pub AreFound : {X : Type 0} → (X → List ℤ) → Side → Result X (OrMemory Stop) → Type 0
AreFound view whole (Ok x) = whole ≡ Ok (map number (view x))
AreFound view whole (Err (Fault (Raised r))) = whole ≡ Err r
AreFound view whole (Err (Fault Beyond)) = Unit {0}
AreFound view whole (Err OutOfMemory) = Unit {0}

-- the rows that were found are these values, or the raise is theirs
abbrev pub FindsRows : Side → Result (Option (List Datum)) (OrMemory Raise) → Type 0
FindsRows whole (Ok (Some rows)) = whole ≡ Ok rows
FindsRows whole (Ok None) = Unit {0}
FindsRows whole (Err (Fault r)) = whole ≡ Err r
FindsRows whole (Err OutOfMemory) = Unit {0}
