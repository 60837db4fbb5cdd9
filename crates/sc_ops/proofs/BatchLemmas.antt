-- Rows as batches, one behind another.
use Rattle.std.proofs.Common.{◌≡◌, ◌∙◌, ℕ, ◌+◌, ◌<◌, ◌≤◌, List, [], ◌∷◌, ◌++◌, length, drop, get_or, ap, sym, arith}
use Rattle.std.proofs.lemmas.Grind.{flat_map-append}
use Rattle.std.proofs.lemmas.List.{append_assoc, append-nil, drop_all, drop_more}
use Rattle.std.proofs.lemmas.List.Folds.{drop_split}
use Rattle.std.specs.List.{flat_map, slice_range}
use Rattle.sc_value.specs.Datum.{Datum}

-- the rows of batches, one behind another
abbrev pub all_rows : List (List Datum) → List Datum
all_rows = flat_map (λ batch. batch)

-- one batch more
pub batch-more : (out after before : List (List Datum)) (run batch : List Datum) (from to : ℕ)
    → from ≤ to → after ≡ out ++ batch ∷ [] → batch ≡ slice_range run from to
    → all_rows out ++ drop from run ≡ all_rows before ++ run
    → all_rows after ++ drop to run ≡ all_rows before ++ run
batch-more out after before run batch from to ordered added is so_far =
    ap (λ bs. all_rows bs ++ drop to run) added
    ∙ ap (λ ds. ds ++ drop to run) (flat_map-append (λ b. b) out (batch ∷ [])
    ∙ ap (λ ds. all_rows out ++ ds) (append-nil batch))
    ∙ append_assoc (all_rows out) batch (drop to run)
    ∙ ap (λ ds. all_rows out ++ ds)
    (ap (λ ds. ds ++ drop to run) is ∙ sym (drop_split run from to ordered))
    ∙ so_far

-- all rows lie in batches
pub batches-all : (out before : List (List Datum)) (run : List Datum) (from : ℕ)
    → length run ≤ from
    → all_rows out ++ drop from run ≡ all_rows before ++ run
    → all_rows out ≡ all_rows before ++ run
batches-all out before run from past so_far =
    sym (ap (λ ds. all_rows out ++ ds) (drop_all from run past) ∙ append-nil (all_rows out))
    ∙ so_far

-- the first of the batches that are left
pub next_batch : (batches : List (List Datum)) (batch : List Datum) (i : ℕ) → i < length batches
    → batch ≡ get_or batches i batch
    → all_rows (drop i batches) ≡ batch ++ all_rows (drop (i + 1) batches)
next_batch batches batch i within is =
    ap all_rows (drop_more batches i batch within)
    ∙ ap (λ b. b ++ all_rows (drop (i + 1) batches)) (sym is)

-- the rows behind the first
pub rest_of_rows : (rows rest : List Datum) (n : ℕ) → n ≡ length rows
    → rest ≡ slice_range rows 1 n → rest ≡ drop 1 rows
rest_of_rows [] rest n len is = is ∙ ap (slice_range [] 1) len
rest_of_rows (d ∷ rows) rest n len is =
    is ∙ sym (drop_split (d ∷ rows) 1 n (omega (arith, len))
    ∙ ap (λ ds. slice_range (d ∷ rows) 1 n ++ ds) (drop_all n (d ∷ rows) (omega (arith, len)))
    ∙ append-nil (slice_range (d ∷ rows) 1 n))
