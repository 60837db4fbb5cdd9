-- Streams row by row.
use Rattle.std.proofs.Common.{◌≡◌, ◌∙◌, ℕ, ◌+◌, ◌<◌, ◌≤◌, true, false, List, [], ◌∷◌, ◌++◌, Option, Some, Ok, Err, length, map, drop, get_or, refl, ap, sym}
use Rattle.std.proofs.lemmas.List.{append-nil, append_assoc, at_drop_more, drop_all}
use Rattle.std.proofs.lemmas.Bool.{false≢true}
use Rattle.std.proofs.lemmas.Option.{slice_get-get_or}
use Rattle.std.specs.List.{slice_get}
use Rattle.std.specs.Option.{IfSome, is_some}
use Rattle.sc_value.specs.Datum.{Datum, truth}
use Rattle.sc_expr.specs.Heads.{Outcome}
use Rattle.sc_expr.specs.declared.exprs.Raise.{Raise}
use Rattle.sc_lineage.specs.Streams.{each_until_raise, with_outcome, with_rows}
use Rattle.sc_lineage.specs.declared.streams.Stream.{Stream}
use Rattle.sc_batch.specs.Outcomes.{AddsOutcome, until_raise}
use Rattle.sc_batch.proofs.ZipLemmas.{fact_of_some}

-- the outcomes of rows, one after another
pub until_raise-map : (f : Datum → Outcome) (ds : List Datum) (end : Option Raise)
    → until_raise (map f ds) end ≡ each_until_raise f ds end
until_raise-map f [] end = refl
until_raise-map f (d ∷ ds) end = ap (with_outcome (λ v. v ∷ []) (f d)) (until_raise-map f ds end)

-- rows behind others, in front of a stream
with_rows-more : (out : List Datum) (d : Datum) (rest : Stream)
    → with_rows out (with_rows (d ∷ []) rest) ≡ with_rows (out ++ d ∷ []) rest
with_rows-more out d rest =
    ap (λ ds. record { rows = ds; raise = rest.raise }) (sym (append_assoc out (d ∷ []) rest.rows))

-- the rows are `out` and what the outcomes from a place on give
abbrev pub IsDoneTo : List Outcome → Option Raise → List Datum → ℕ → Type 0
IsDoneTo os end out i = until_raise os end ≡ with_rows out (until_raise (drop i os) end)

module _ (os : List Outcome) (end : Option Raise) (out after : List Datum) (raised : Option Raise)
    (i : ℕ) (within : i < length os) (so_far : IsDoneTo os end out i) where
  abbrev rest : Stream
  rest = until_raise (drop (i + 1) os) end

  abbrev here : Outcome
  here = get_or os i (Ok (truth false))

  next : until_raise os end ≡ with_rows out (with_outcome (λ v. v ∷ []) here rest)
  next = so_far
      ∙ ap (with_rows out)
      (at_drop_more (λ r. until_raise r end) os i (Ok (truth false)) within)

  added : (o : Outcome) → until_raise os end ≡ with_rows out (with_outcome (λ v. v ∷ []) o rest)
      → AddsOutcome out after raised o → is_some raised ≡ false → IsDoneTo os end after (i + 1)
  added (Ok d) is adds none =
      is ∙ with_rows-more out d rest ∙ ap (λ ds. with_rows ds rest) (sym adds.0)
  added (Err r) is adds none = absurd (false≢true (sym none ∙ ap is_some adds.1))

  stopped : (o : Outcome) → until_raise os end ≡ with_rows out (with_outcome (λ v. v ∷ []) o rest)
      → AddsOutcome out after raised o → is_some raised ≡ true
      → record { rows = after; raise = raised } ≡ until_raise os end
  stopped (Ok d) is adds some = absurd (false≢true (sym (ap is_some adds.1) ∙ some))
  stopped (Err r) is adds some =
      ap (λ o. record { rows = after; raise = o }) adds.1
      ∙ ap (λ ds. record { rows = ds; raise = Some r }) (adds.0 ∙ sym (append-nil out)) ∙ sym is

  fact : IfSome (slice_get os i) (AddsOutcome out after raised) → AddsOutcome out after raised here
  fact adds = fact_of_some (AddsOutcome out after raised) (slice_get os i) here
      (slice_get-get_or os i (Ok (truth false)) within) adds

  -- one row more
  pub rows-more : IfSome (slice_get os i) (AddsOutcome out after raised) → is_some raised ≡ false
      → IsDoneTo os end after (i + 1)
  rows-more adds none = added here next (fact adds) none

  -- a row that raises ends the stream
  pub rows-raised : IfSome (slice_get os i) (AddsOutcome out after raised) → is_some raised ≡ true
      → record { rows = after; raise = raised } ≡ until_raise os end
  rows-raised adds some = stopped here next (fact adds) some

-- all rows
pub rows-all : (os : List Outcome) (end : Option Raise) (out : List Datum) (i : ℕ) → length os ≤ i
    → IsDoneTo os end out i → record { rows = out; raise = end } ≡ until_raise os end
rows-all os end out i past so_far =
    sym (so_far ∙ ap (λ r. with_rows out (until_raise r end)) (drop_all i os past)
    ∙ ap (λ ds. record { rows = ds; raise = end }) (append-nil out))
