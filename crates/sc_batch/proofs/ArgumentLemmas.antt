-- Streams of expressions from the streams of their arguments.
use Rattle.std.proofs.Common.{◌≡◌, ◌∙◌, false, List, [], ◌∷◌, Option, Ok, Err, length, map, take, refl, ap, sym}
use Rattle.std.specs.Prelude.{if◌then◌else◌, Bool, replicate}
use Rattle.std.specs.List.{slice_range}
use Rattle.sc_value.specs.Datum.{Datum}
use Rattle.sc_columns.specs.Columns.{zip_with}
use Rattle.sc_expr.specs.ExprData.{ExprsData, call_expr}
use Rattle.sc_expr.specs.Heads.{Outcome, head_value, is_lazy}
use Rattle.sc_expr.specs.Meaning.{all_values, lazy_outcome, one_value, outcomes_of, strict_outcome}
use Rattle.sc_expr.specs.declared.exprs.Head.{Head}
use Rattle.sc_expr.specs.declared.exprs.Raise.{Raise}
use Rattle.sc_lineage.specs.Narrow.{at_row}
use Rattle.sc_lineage.specs.Streams.{each_until_raise, with_outcome}
use Rattle.sc_lineage.specs.declared.streams.Stream.{Stream}
use Rattle.sc_batch.specs.Outcomes.{of_one, of_two, until_raise}
use Rattle.sc_batch.proofs.ZipLemmas.{range_from_zero}

-- one value at each row
pub each-constant : (v : Datum) (ds rows : List Datum) (end : Option Raise)
    → rows ≡ replicate (length ds) v
    → record { rows = rows; raise = end } ≡ each_until_raise (λ _. Ok v) ds end
each-constant v [] rows end is = ap (λ r. record { rows = r; raise = end }) is
each-constant v (d ∷ ds) rows end is =
    ap (λ r. record { rows = r; raise = end }) is
    ∙ ap (with_outcome (λ x. x ∷ []) (Ok v)) (each-constant v ds (replicate (length ds) v) end refl)

-- each row itself
pub each-row : (ds rows : List Datum) (end : Option Raise) → rows ≡ ds
    → record { rows = rows; raise = end } ≡ each_until_raise Ok ds end
each-row [] rows end is = ap (λ r. record { rows = r; raise = end }) is
each-row (d ∷ ds) rows end is =
    ap (λ r. record { rows = r; raise = end }) is
    ∙ ap (with_outcome (λ x. x ∷ []) (Ok d)) (each-row ds ds end refl)

-- a head of one argument, from the outcome of that
abbrev pub one_outcome : Head → Outcome → Outcome
one_outcome h o = strict_outcome (head_value h) (all_values (o ∷ []))

one_row : (h : Head) (rest inner : Stream) (o : Outcome)
    → until_raise (map (of_one h) inner.rows) inner.raise ≡ rest
    → until_raise (map (of_one h) (with_outcome (λ v. v ∷ []) o inner).rows)
    (with_outcome (λ v. v ∷ []) o inner).raise
    ≡ with_outcome (λ v. v ∷ []) (one_outcome h o) rest
one_row h rest inner (Ok a) is = ap (with_outcome (λ v. v ∷ []) (of_one h a)) is
one_row h rest inner (Err r) is = refl

each_one : (h : Head) (f : Datum → Outcome) (ds : List Datum) (end : Option Raise)
    → until_raise (map (of_one h) (each_until_raise f ds end).rows)
    (each_until_raise f ds end).raise
    ≡ each_until_raise (λ d. one_outcome h (f d)) ds end
each_one h f [] end = refl
each_one h f (d ∷ ds) end =
    one_row h _ (each_until_raise f ds end) (f d) (each_one h f ds end)

-- a head over the column of its argument
pub each-one : (h : Head) (f : Datum → Outcome) (ds : List Datum) (end : Option Raise)
    (input given : Stream)
    → input ≡ each_until_raise f ds end
    → given ≡ until_raise (map (of_one h) input.rows) input.raise
    → given ≡ each_until_raise (λ d. one_outcome h (f d)) ds end
each-one h f ds end input given input_is is =
    is ∙ ap (λ (s : Stream). until_raise (map (of_one h) s.rows) s.raise) input_is
    ∙ each_one h f ds end

-- a head of two arguments, from the outcomes of these
abbrev pub two_outcome : Head → Outcome → Outcome → Outcome
two_outcome h o p = strict_outcome (head_value h) (all_values (o ∷ p ∷ []))

-- a head over the columns of two arguments, of which the second was evaluated as far as the first
-- goes, and ends as the first ended
abbrev both_parts : Head → (Datum → Outcome) → List Datum → Stream → Stream
both_parts h f ds first =
    until_raise
    (zip_with (of_two h) first.rows
    (each_until_raise f (take (length first.rows) ds) first.raise).rows)
    (each_until_raise f (take (length first.rows) ds) first.raise).raise

second_row : (h : Head) (a : Datum) (firsts : List Datum) (rest second : Stream) (p : Outcome)
    → until_raise (zip_with (of_two h) firsts second.rows) second.raise ≡ rest
    → until_raise (zip_with (of_two h) (a ∷ firsts) (with_outcome (λ v. v ∷ []) p second).rows)
    (with_outcome (λ v. v ∷ []) p second).raise
    ≡ with_outcome (λ v. v ∷ []) (two_outcome h (Ok a) p) rest
second_row h a firsts rest second (Ok b) is = ap (with_outcome (λ v. v ∷ []) (of_two h a b)) is
second_row h a firsts rest second (Err r) is = refl

first_row : (h : Head) (f : Datum → Outcome) (d : Datum) (ds : List Datum) (rest inner : Stream)
    (o : Outcome) → both_parts h f ds inner ≡ rest
    → both_parts h f (d ∷ ds) (with_outcome (λ v. v ∷ []) o inner)
    ≡ with_outcome (λ v. v ∷ []) (two_outcome h o (f d)) rest
first_row h f d ds rest inner (Ok a) is =
    second_row h a inner.rows rest
    (each_until_raise f (take (length inner.rows) ds) inner.raise) (f d) is
first_row h f d ds rest inner (Err r) is = refl

each_two : (h : Head) (e f : Datum → Outcome) (ds : List Datum) (end : Option Raise)
    → both_parts h f ds (each_until_raise e ds end)
    ≡ each_until_raise (λ d. two_outcome h (e d) (f d)) ds end
each_two h e f [] end = refl
each_two h e f (d ∷ ds) end =
    first_row h f d ds _ (each_until_raise e ds end) (e d) (each_two h e f ds end)

-- a head over the columns of its two arguments
pub each-two : (h : Head) (e f : Datum → Outcome) (ds rest : List Datum) (end : Option Raise)
    (first second given : Stream)
    → first ≡ each_until_raise e ds end → rest ≡ slice_range ds 0 (length first.rows)
    → second ≡ each_until_raise f rest first.raise
    → given ≡ until_raise (zip_with (of_two h) first.rows second.rows) second.raise
    → given ≡ each_until_raise (λ d. two_outcome h (e d) (f d)) ds end
each-two h e f ds rest end first second given first_is rest_is second_is is =
    let so_far : second ≡ each_until_raise f (take (length first.rows) ds) first.raise =
    second_is ∙ ap (λ r. each_until_raise f r first.raise)
    (rest_is ∙ range_from_zero ds (length first.rows)) in
    is
    ∙ ap (λ (s : Stream). until_raise (zip_with (of_two h) first.rows s.rows) s.raise) so_far
    ∙ ap (both_parts h f ds) first_is
    ∙ each_two h e f ds end

-- a head that evaluates all its arguments, as a call of it
pub each-strict : (h : Head) (es : ExprsData) (ds : List Datum) (end : Option Raise)
    (given : Stream)
    → is_lazy h ≡ false
    → given ≡ each_until_raise
    (λ d. strict_outcome (head_value h) (all_values (outcomes_of (one_value d) es))) ds end
    → given ≡ each_until_raise (at_row (call_expr h es)) ds end
each-strict h es ds end given strict is =
    is ∙ sym (ap (λ (b : Bool). each_until_raise
    (λ d. if b then lazy_outcome h (outcomes_of (one_value d) es)
    else strict_outcome (head_value h) (all_values (outcomes_of (one_value d) es))) ds end) strict)
