-- The rows of a map partition by bucket.
use Rattle.std.specs.Prelude.{◌≡◌, ◌+◌, ◌%◌, ℕ, suc, List, [], ◌∷◌, length}
use Rattle.sc_base.specs.Lists.{at_or}
use Rattle.sc_value.specs.Datum.{Datum}
use Rattle.sc_lineage.specs.Shuffles.{Dealing, by_hash, by_range, in_turn, bucket_in, rows_dealt}

-- how many buckets rows are dealt out among
abbrev pub bucket_count : Dealing → ℕ
bucket_count (by_hash n) = n
bucket_count (by_range bounds) = length bounds + 1
bucket_count (in_turn n) = n

-- the bucket of the row at position k of map partition m, where rows go in turn among n
abbrev pub turn_of : ℕ → ℕ → ℕ → ℕ
turn_of m n k = (m + k) % n

-- the bucket of each row of map partition m, where the first of them is at position k
abbrev pub buckets_in : Dealing → ℕ → ℕ → List Datum → List ℕ
buckets_in dealing m k [] = []
buckets_in dealing m k (row ∷ rows) = bucket_in dealing m k row ∷ buckets_in dealing m (suc k) rows

-- the rows of map partition m, by bucket; past the last bucket there are none
pub record IsDealt (dealing : Dealing) (m : ℕ) (rows : List Datum) (dealt : List (List Datum)) :
    Type 0 where
  pub count : length dealt ≡ bucket_count dealing
  pub each : (j : ℕ) → at_or dealt j [] ≡ rows_dealt dealing j m 0 rows
