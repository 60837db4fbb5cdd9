-- Rows that lie by the hash of their keys already: of all partitions a bucket reads its own.
use Rattle.std.proofs.Common.{◌≡◌, ◌∙◌, ℕ, zero, suc, ◌+◌, ◌<◌, ◌==◌, if◌then◌else◌, List, [], ◌∷◌, ◌++◌, None, Ok, map, refl, ap, ap₂, sym, subst, arith, append-nil, eq-eqb, eqb-true, ne_eqb}
use Rattle.sc_base.specs.Lists.{at_or}
use Rattle.sc_value.specs.Datum.{Datum}
use Rattle.sc_value.specs.Keys.{KeyData}
use Rattle.sc_hash.specs.Hashes.{bucket_of}
use Rattle.sc_lineage.specs.declared.streams.Stream.{Stream}
use Rattle.sc_lineage.specs.Keyed.{key_of}
use Rattle.sc_lineage.specs.NodeData.{ShufflingData}
use Rattle.sc_lineage.specs.Shuffles.{by_hash, bucket_read, map_side, rows_dealt}
use Rattle.sc_lineage.specs.Streams.{ended_stream}
use Rattle.sc_laws.proofs.EachLemmas.{each_append, each_if}
use Rattle.sc_laws.proofs.KeyLemmas.{AreKeyed, SideIsKeyed, map_side_keyed}

-- a key has this bucket of so many
abbrev pub HasBucket : ℕ → ℕ → KeyData → Type 0
HasBucket n j key = bucket_of n key ≡ j

-- the rows of a bucket lie in it
pub dealt_keyed : (n j m k : ℕ) (rows : List Datum)
    → AreKeyed (HasBucket n j) (rows_dealt (by_hash n) j m k rows)
dealt_keyed n j m k [] = tt
dealt_keyed n j m k (row ∷ rows) =
    each_if (λ r. HasBucket n j (key_of r)) (bucket_of n (key_of row) == j) row
    (rows_dealt (by_hash n) j m (suc k) rows) (eqb-true (bucket_of n (key_of row)) j)
    (dealt_keyed n j m (suc k) rows)

pub read_keyed : (n j m : ℕ) (maps : List (List Datum))
    → AreKeyed (HasBucket n j) (bucket_read (by_hash n) j m maps)
read_keyed n j m [] = tt
read_keyed n j m (rows ∷ maps) =
    each_append (λ r. HasBucket n j (key_of r)) (rows_dealt (by_hash n) j m 0 rows)
    (bucket_read (by_hash n) j (suc m) maps) (dealt_keyed n j m 0 rows)
    (read_keyed n j (suc m) maps)

-- rows that lie in a bucket are all dealt to it, and none to another one
dealt_own : (n j m k : ℕ) (rows : List Datum) → AreKeyed (HasBucket n j) rows
    → rows_dealt (by_hash n) j m k rows ≡ rows
dealt_own n j m k [] lie = refl
dealt_own n j m k (row ∷ rows) lie =
    let rest = rows_dealt (by_hash n) j m (suc k) rows in
    ap (λ b. if b then row ∷ rest else rest) (eq-eqb (bucket_of n (key_of row)) j lie.0)
    ∙ ap (λ more. row ∷ more) (dealt_own n j m (suc k) rows lie.1)

dealt_other : (n i j m k : ℕ) (rows : List Datum) → (i ≡ j → ⊥) → AreKeyed (HasBucket n i) rows
    → rows_dealt (by_hash n) j m k rows ≡ []
dealt_other n i j m k [] apart lie = refl
dealt_other n i j m k (row ∷ rows) apart lie =
    let rest = rows_dealt (by_hash n) j m (suc k) rows in
    ap (λ b. if b then row ∷ rest else rest)
    (ne_eqb (bucket_of n (key_of row)) j (λ e. apart (sym lie.0 ∙ e)))
    ∙ dealt_other n i j m (suc k) rows apart lie.1

-- partitions from number m on, each of which has the rows of the bucket of its number
abbrev pub AreParted : ℕ → ℕ → List (List Datum) → Type 0
AreParted n m [] = Unit {0}
AreParted n m (rows ∷ maps) = AreKeyed (HasBucket n m) rows × AreParted n (suc m) maps

none_read : (n j m : ℕ) (maps : List (List Datum)) → j < m → AreParted n m maps
    → bucket_read (by_hash n) j m maps ≡ []
none_read n j m [] below parted = refl
none_read n j m (rows ∷ maps) below parted =
    ap₂ (λ xs ys. xs ++ ys)
    (dealt_other n m j m 0 rows (λ e. absurd (omega (arith, e))) parted.0)
    (none_read n j (suc m) maps (omega arith) parted.1)

own_read : (n m i : ℕ) (maps : List (List Datum)) → AreParted n m maps
    → bucket_read (by_hash n) (m + i) m maps ≡ at_or maps i []
own_read n m i [] parted = refl
own_read n m zero (rows ∷ maps) parted =
    let here : m + 0 ≡ m = omega arith in
    ap (λ j. bucket_read (by_hash n) j m (rows ∷ maps)) here
    ∙ ap₂ (λ xs ys. xs ++ ys) (dealt_own n m m 0 rows parted.0)
    (none_read n m (suc m) maps (omega arith) parted.1)
    ∙ append-nil rows
own_read n m (suc i) (rows ∷ maps) parted =
    let next : m + suc i ≡ suc m + i = omega arith in
    ap₂ (λ xs ys. xs ++ ys)
    (dealt_other n m (m + suc i) m 0 rows (λ e. absurd (omega (arith, e))) parted.0)
    (ap (λ j. bucket_read (by_hash n) j (suc m) maps) next ∙ own_read n (suc m) i maps parted.1)

-- of all partitions a bucket reads that of its number
pub read_own : (n j : ℕ) (maps : List (List Datum)) → AreParted n 0 maps
    → bucket_read (by_hash n) j 0 maps ≡ at_or maps j []
read_own n j maps parted =
    let number : j ≡ 0 + j = omega arith in
    ap (λ i. bucket_read (by_hash n) i 0 maps) number ∙ own_read n 0 j maps parted

-- and of that one alone it reads all
pub read_alone : (n j : ℕ) (rows : List Datum) → AreKeyed (HasBucket n j) rows
    → bucket_read (by_hash n) j 0 (rows ∷ []) ≡ rows
read_alone n j rows lie =
    ap (λ xs. xs ++ []) (dealt_own n j 0 0 rows lie) ∙ append-nil rows

pub parted_at : (n m i : ℕ) (maps : List (List Datum)) → AreParted n m maps
    → AreKeyed (HasBucket n (m + i)) (at_or maps i [])
parted_at n m i [] parted = tt
parted_at n m zero (rows ∷ maps) parted =
    let here : m ≡ m + 0 = omega arith in
    subst (λ j. AreKeyed (HasBucket n j) rows) here parted.0
parted_at n m (suc i) (rows ∷ maps) parted =
    let next : suc m + i ≡ m + suc i = omega arith in
    subst (λ j. AreKeyed (HasBucket n j) (at_or maps i [])) next
    (parted_at n (suc m) i maps parted.1)

-- so the bucket reads the same of all partitions and of its own alone
pub read_same : (n j : ℕ) (maps : List (List Datum)) → AreParted n 0 maps
    → bucket_read (by_hash n) j 0 (at_or maps j [] ∷ []) ≡ bucket_read (by_hash n) j 0 maps
read_same n j maps parted =
    let number : 0 + j ≡ j = omega arith in
    let own = at_or maps j [] in
    read_alone n j own
    (subst (λ i. AreKeyed (HasBucket n i) own) number (parted_at n 0 j maps parted))
    ∙ sym (read_own n j maps parted)

-- what the map side leaves of partitions of a bucket each lies as they do
pub sides_parted : (kind : ShufflingData) (n m : ℕ) (streams : List Stream)
    (maps : List (List Datum))
    → ((i : ℕ) → AreKeyed (HasBucket n (m + i)) (at_or streams i (ended_stream None)).rows)
    → map (map_side kind) streams ≡ map Ok maps → AreParted n m maps
sides_parted kind n m [] [] lie is = tt
sides_parted kind n m [] (rows ∷ maps) lie is = cc
sides_parted kind n m (s ∷ streams) [] lie is = cc
sides_parted kind n m (s ∷ streams) (rows ∷ maps) lie is =
    let first : map_side kind s ≡ Ok rows = cc in
    let rest : map (map_side kind) streams ≡ map Ok maps = cc in
    let here : m + 0 ≡ m = omega arith in
    let own : AreKeyed (HasBucket n m) s.rows =
    subst (λ j. AreKeyed (HasBucket n j) s.rows) here (lie 0) in (
      subst (SideIsKeyed (HasBucket n m)) first (map_side_keyed (HasBucket n m) kind s own),
      sides_parted kind n (suc m) streams maps
          (λ i. let next : m + suc i ≡ suc m + i = omega arith in
          subst (λ j. AreKeyed (HasBucket n j) (at_or streams i (ended_stream None)).rows) next
          (lie (suc i))) rest,
    )
