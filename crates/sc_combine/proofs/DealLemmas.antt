-- The rows of a map partition by bucket.
use Rattle.std.proofs.Common.{◌≡◌, ◌∙◌, ℕ, zero, suc, ◌+◌, ◌<◌, ◌≤◌, ◌==◌, Bool, true, false, List, [], ◌∷◌, ◌++◌, Option, Some, length, map, refl, ap, ap₂, sym, subst, arith, if◌then◌else◌, ne_eqb, ⊎_elim}
use Rattle.std.proofs.lemmas.Bool.{cases_lt}
use Rattle.std.proofs.lemmas.List.Elements.{All-append, All-cons, All-head, All-nil, All-tail}
use Rattle.std.specs.List.{All, cons_option, filter_map, slice_get}
use Rattle.sc_base.specs.Lists.{at_or, numbers_below, numbers_from}
use Rattle.sc_hash.specs.Hashes.{bucket_of}
use Rattle.sc_keys.specs.Splits.{places_from, places_of}
use Rattle.sc_keys.proofs.SplitLemmas.{length-numbers, number_push}
use Rattle.sc_lineage.specs.Keyed.{key_of}
use Rattle.sc_lineage.specs.Shuffles.{Dealing, by_hash, by_range, in_turn, bucket_in, rows_dealt}
use Rattle.sc_part.specs.Bounds.{range_of}
use Rattle.sc_value.specs.Datum.{Datum}
use Rattle.sc_value.specs.Keys.{KeyData}
use Rattle.sc_value.specs.Picked.{picked}
use Rattle.sc_combine.specs.Deals.{IsDealt, bucket_count, buckets_in, turn_of}

place_by : (b : Bool) (get : ℕ → Option Datum) (i : ℕ) (row : Datum) (ps : List ℕ)
    (rest : List Datum) → get i ≡ Some row → filter_map get ps ≡ rest
    → filter_map get (if b then i ∷ ps else ps) ≡ (if b then row ∷ rest else rest)
place_by true get i row ps rest at is = ap₂ cons_option at is
place_by false get i row ps rest at is = is

dealt_at : (dealing : Dealing) (j m k i : ℕ) (get : ℕ → Option Datum) (rows : List Datum)
    → ((n : ℕ) → get (i + n) ≡ slice_get rows n)
    → filter_map get (places_from i j (buckets_in dealing m k rows)) ≡ rows_dealt dealing j m k rows
dealt_at dealing j m k i get [] at = refl
dealt_at dealing j m k i get (row ∷ rows) at =
    let here : i ≡ i + 0 = omega arith in
    place_by (bucket_in dealing m k row == j) get i row
    (places_from (suc i) j (buckets_in dealing m (suc k) rows))
    (rows_dealt dealing j m (suc k) rows)
    (ap get here ∙ at 0)
    (dealt_at dealing j m (suc k) (suc i) get rows
    (λ n. let e : suc i + n ≡ i + suc n = omega arith in ap get e ∙ at (suc n)))

none_by : (b : ℕ) (j : ℕ) (row : Datum) (rows : List Datum) → b < j → rows ≡ []
    → (if b == j then row ∷ rows else rows) ≡ []
none_by b j row rows below none =
    ap (λ t. if t then row ∷ rows else rows) (ne_eqb b j (λ e. absurd (omega arith))) ∙ none

none_dealt : (dealing : Dealing) (j m k n : ℕ) (rows : List Datum)
    → All (λ b. b < n) (buckets_in dealing m k rows) → n ≤ j → rows_dealt dealing j m k rows ≡ []
none_dealt dealing j m k n [] below past = refl
none_dealt dealing j m k n (row ∷ rows) below past =
    let b = bucket_in dealing m k row in
    let bs = buckets_in dealing m (suc k) rows in
    let here : b < n = All-head (λ b. b < n) b bs below in
    none_by b j row (rows_dealt dealing j m (suc k) rows) (omega arith)
    (none_dealt dealing j m (suc k) n rows (All-tail (λ b. b < n) b bs below) past)

-- the item of a number
at_number : (f : ℕ → List Datum) (first count j : ℕ) → j < count
    → at_or (map f (numbers_from first count)) j [] ≡ f (first + j)
at_number f first zero j below = absurd (omega arith)
at_number f first (suc count) zero below = let e : first ≡ first + 0 = omega arith in ap f e
at_number f first (suc count) (suc j) below =
    let e : suc first + j ≡ first + suc j = omega arith in
    at_number f (suc first) count j (omega arith) ∙ ap f e

past_number : (f : ℕ → List Datum) (first count j : ℕ) → count ≤ j
    → at_or (map f (numbers_from first count)) j [] ≡ []
past_number f first zero j past = refl
past_number f first (suc count) zero past = absurd (omega arith)
past_number f first (suc count) (suc j) past = past_number f (suc first) count j (omega arith)

module _ (dealing : Dealing) (m n : ℕ) (rows : List Datum) (buckets : List ℕ)
    (are : buckets ≡ buckets_in dealing m 0 rows) (below : All (λ b. b < n) buckets) where
  abbrev bucket_rows : ℕ → List Datum
  bucket_rows j = picked rows (places_of j buckets)

  rows_are : (j : ℕ) → bucket_rows j ≡ rows_dealt dealing j m 0 rows
  rows_are j =
      ap (λ bs. picked rows (places_of j bs)) are
      ∙ dealt_at dealing j m 0 0 (slice_get rows) rows
      (λ k. let e : 0 + k ≡ k = omega arith in ap (slice_get rows) e)

  within : (j : ℕ) → j < n
      → at_or (map bucket_rows (numbers_below n)) j [] ≡ rows_dealt dealing j m 0 rows
  within j here =
      let e : 0 + j ≡ j = omega arith in
      at_number bucket_rows 0 n j here ∙ ap bucket_rows e ∙ rows_are j

  past : (j : ℕ) → n ≤ j
      → at_or (map bucket_rows (numbers_below n)) j [] ≡ rows_dealt dealing j m 0 rows
  past j there =
      past_number bucket_rows 0 n j there
      ∙ sym (none_dealt dealing j m 0 n rows (subst (All (λ b. b < n)) are below) there)

  -- rows that were split by their buckets are dealt out
  pub is_dealt : (dealt : List (List Datum)) → n ≡ bucket_count dealing
      → dealt ≡ map bucket_rows (numbers_below n) → IsDealt dealing m rows dealt
  is_dealt dealt count is = record {
    count = ap length is ∙ length-numbers bucket_rows 0 n ∙ count;
    each = (λ j. ap (λ ds. at_or ds j []) is ∙ ⊎_elim (within j) (past j) (cases_lt j n));
  }

-- the buckets of each way of dealing
pub hash_buckets : (n m k : ℕ) (rows : List Datum)
    → map (bucket_of n) (map key_of rows) ≡ buckets_in (by_hash n) m k rows
hash_buckets n m k [] = refl
hash_buckets n m k (row ∷ rows) =
    ap (λ bs. bucket_of n (key_of row) ∷ bs) (hash_buckets n m (suc k) rows)

pub range_buckets : (bounds : List KeyData) (m k : ℕ) (rows : List Datum)
    → map (range_of bounds) (map key_of rows) ≡ buckets_in (by_range bounds) m k rows
range_buckets bounds m k [] = refl
range_buckets bounds m k (row ∷ rows) =
    ap (λ bs. range_of bounds (key_of row) ∷ bs) (range_buckets bounds m (suc k) rows)

pub turn_buckets : (n m k : ℕ) (rows : List Datum)
    → map (turn_of m n) (numbers_from k (length rows)) ≡ buckets_in (in_turn n) m k rows
turn_buckets n m k [] = refl
turn_buckets n m k (row ∷ rows) = ap (λ bs. turn_of m n k ∷ bs) (turn_buckets n m (suc k) rows)

-- one bucket for each row
pub length-buckets : (dealing : Dealing) (m k : ℕ) (rows : List Datum)
    → length (buckets_in dealing m k rows) ≡ length rows
length-buckets dealing m k [] = refl
length-buckets dealing m k (row ∷ rows) = ap suc (length-buckets dealing m (suc k) rows)

-- one more row went to its bucket
pub turns_more : (m n i x : ℕ) (out after : List ℕ) → 0 < n → x ≡ turn_of m n i
    → after ≡ out ++ x ∷ [] → out ≡ map (turn_of m n) (numbers_below i) → All (λ b. b < n) out
    → (after ≡ map (turn_of m n) (numbers_below (i + 1))) × All (λ b. b < n) after
turns_more m n i x out after some is pushed are below =
    let first : 0 + i ≡ i = omega arith in
    let here : x < n = subst (λ y. y < n) (sym is) (turn_within m n i some) in (
      pushed ∙ ap₂ (λ xs y. xs ++ y ∷ []) are (is ∙ ap (turn_of m n) (sym first))
          ∙ sym (number_push (turn_of m n) 0 i),
      subst (All (λ b. b < n)) (sym pushed)
          (All-append (λ b. b < n) out (x ∷ []) below
          (All-cons (λ b. b < n) x [] here (All-nil (λ b. b < n)))),
    )
  where
    turn_within : (m n i : ℕ) → 0 < n → turn_of m n i < n
    turn_within m n i some = omega arith

pub map-twice : {X Y Z : Type 0} (f : X → Y) (g : Y → Z) (xs : List X)
    → map g (map f xs) ≡ map (λ x. g (f x)) xs
map-twice f g [] = refl
map-twice f g (x ∷ xs) = ap (λ r. g (f x) ∷ r) (map-twice f g xs)
