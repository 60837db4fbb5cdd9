-- What a call answers that may be refused.
use Rattle.std.specs.Prelude.{◌≡◌, Result, Ok, Err, Option, Some, None}
use Rattle.sc_base.specs.declared.refusals.OrMemory.{OrMemory}
use Rattle.sc_base.specs.declared.refusals.OrMemory.TheVariants.{Fault, OutOfMemory}

-- the answer is this result or its fault, unless memory ran out
abbrev pub Answers : {X Y F G : Type 0}
    → (X → Y) → (F → G) → Result X (OrMemory F) → Result Y G → Type 0
Answers view cause (Ok x) is = is ≡ Ok (view x)
Answers view cause (Err (Fault f)) is = is ≡ Err (cause f)
Answers view cause (Err OutOfMemory) is = Unit {0}

-- the answer is what there is, or a fault where there is nothing, unless memory ran out
abbrev pub Finds : {X Y F : Type 0} → (X → Y) → Result X (OrMemory F) → Option Y → Type 0
Finds view (Ok x) found = found ≡ Some (view x)
Finds view (Err (Fault f)) found = found ≡ None
Finds view (Err OutOfMemory) found = Unit {0}
