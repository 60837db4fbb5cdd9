-- One of two branches at each row.
use Rattle.std.specs.Prelude.{Bool, true, false, List, [], ◌∷◌, Option, Ok, map}
use Rattle.sc_value.specs.Datum.{Datum, truth}
use Rattle.sc_expr.specs.ExprData.{exprs_of}
use Rattle.sc_expr.specs.Heads.{Outcome}
use Rattle.sc_expr.specs.Meaning.{chosen, one_value, outcome_at, outcomes_of}
use Rattle.sc_expr.specs.Views.{expr_data_of}
use Rattle.sc_expr.specs.declared.exprs.Expr.{Expr}
use Rattle.sc_expr.specs.declared.exprs.Raise.{Raise}
use Rattle.sc_lineage.specs.declared.streams.Stream.{Stream}
use Rattle.sc_batch.specs.declared.evaluation.Branch.{Branch}
use Rattle.sc_batch.specs.declared.evaluation.Branch.TheVariants as branches

-- the outcomes of arguments at a row
abbrev pub outcomes_in : List Expr → Datum → List Outcome
outcomes_in args d = outcomes_of (one_value d) (exprs_of (map expr_data_of args))

-- what a branch gives, from the outcomes of all arguments
abbrev pub branch_outcome : Branch → List Outcome → Outcome
branch_outcome (branches.Argument i) os = outcome_at os i
branch_outcome (branches.Truth b) os = Ok (truth b)

-- one of two branches, by the first argument
abbrev pub chosen_branch : Branch → Branch → List Outcome → Outcome
chosen_branch then other os =
    chosen (outcome_at os 0) (branch_outcome then os) (branch_outcome other os)

-- an item in front of those that are merged
abbrev pub with_item : {X : Type 0} → X → List X × Option Raise → List X × Option Raise
with_item x m = (x ∷ m.0, m.1)

-- By marks the next item of one list or of another, up to where that one has no more; and what
-- ended that one, or else what is behind all.
abbrev pub merged : {X : Type 0} → List Bool → List X → Option Raise → List X → Option Raise
    → Option Raise → List X × Option Raise
merged [] ys yend ns nend end = ([], end)
merged (true ∷ ms) [] yend ns nend end = ([], yend)
merged (true ∷ ms) (y ∷ ys) yend ns nend end = with_item y (merged ms ys yend ns nend end)
merged (false ∷ ms) ys yend [] nend end = ([], nend)
merged (false ∷ ms) ys yend (n ∷ ns) nend end = with_item n (merged ms ys yend ns nend end)

-- rows and what ended them
abbrev pub stream_from : List Datum × Option Raise → Stream
stream_from m = record { rows = m.0; raise = m.1 }

-- items as rows
abbrev pub as_rows : {X : Type 0} → (X → Datum) → List X × Option Raise → List Datum × Option Raise
as_rows k m = (map k m.0, m.1)
