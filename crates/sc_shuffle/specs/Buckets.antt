-- Rows by bucket, where each row has one.
use Rattle.std.specs.Prelude.{ℕ, ◌==◌, List, [], ◌∷◌, map, if◌then◌else◌}
use Rattle.sc_base.specs.Lists.{numbers_below}
use Rattle.sc_value.specs.Datum.{Datum}

-- the rows whose bucket is j, in order
abbrev pub rows_of_bucket : ℕ → List ℕ → List Datum → List Datum
rows_of_bucket j [] rows = []
rows_of_bucket j (bucket ∷ buckets) [] = []
rows_of_bucket j (bucket ∷ buckets) (row ∷ rows) =
    if bucket == j then row ∷ rows_of_bucket j buckets rows else rows_of_bucket j buckets rows

-- the rows of each of n buckets
abbrev pub by_bucket : ℕ → List ℕ → List Datum → List (List Datum)
by_bucket n buckets rows = map (λ j. rows_of_bucket j buckets rows) (numbers_below n)
