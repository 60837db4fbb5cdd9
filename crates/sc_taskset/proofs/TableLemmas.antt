-- What is known of all rows of a set.
use Rattle.std.proofs.Common.{◌≡◌, ℕ, ◌+◌, ◌<◌, ◌≤◌, ◌==◌, zero, suc, Bool, true, false, cond, not, List, [], ◌∷◌, length, get_or, set, map, Some, None, refl, ap, sym, ◌∙◌, arith, rules, nat_lt, ltb}
use Rattle.std.proofs.lemmas.Bool.Decides.{nat_tests}
use Rattle.std.proofs.lemmas.List.{get_or-map, get_or-set_other, length-map}
use Rattle.std.proofs.lemmas.List.Sums.{fails_before_first, passes_at_first, position_or_len_is, prefix_len-le-length, sum_by-cons, sum_by-set}
use Rattle.std.proofs.Math.Seq.{map-set_same}
use Rattle.std.proofs.lemmas.Grind.{get_or-set_at}
use Rattle.std.specs.List.{count_by, find, position_or_len}
use Rattle.std.specs.List.Sorted.{IsNonDecreasingBy, IsPartitionPoint}
use Rattle.sc_taskset.specs.declared.rows.Row.{Row}
use Rattle.sc_taskset.specs.declared.rows.Failure.{Failure}
use Rattle.sc_taskset.specs.TaskSetData.{TaskData, fresh_task}
use Rattle.sc_taskset.specs.Lookups.{change_first, is_finish, with_task, is_task_of}
use Rattle.sc_taskset.specs.Offers.{is_pending_task}
use Rattle.sc_taskset.specs.Rooms.{AreFresh, row_partitions}
use Rattle.sc_taskset.specs.Rows.{is_row_of, task_of, tasks_of}
use Rattle.sc_taskset.specs.Sound.{AreRising}
use Rattle.sc_taskset.specs.declared.marks.Marks.{Marks}
use Rattle.sc_taskset.specs.Marks.{AreMarked, MarksFit, is_pending_row}
use Rattle.sc_taskset.specs.Tables.{IsIndexed, NonePendingBelow, is_open_row}
use Rattle.sc_taskset.proofs.FindLemmas.{found_passes}

-- ---- counts

-- one more item
count_cons : {A : Type 0} (q : A → Bool) (x : A) (xs : List A)
    → count_by q (x ∷ xs) ≡ cond (q x) 1 0 + count_by q xs
count_cons q x xs = sum_by-cons (λ y. cond (q y) 1 0) x xs

-- ---- places

-- the first item passes
place_here : {A : Type 0} (q : A → Bool) (x : A) (xs : List A)
    → q x ≡ true → position_or_len q (x ∷ xs) ≡ 0
place_here q x xs e = rw e refl

-- it doesn't
place_behind : {A : Type 0} (q : A → Bool) (x : A) (xs : List A)
    → q x ≡ false → position_or_len q (x ∷ xs) ≡ suc (position_or_len q xs)
place_behind q x xs e = rw e (omega arith)

-- a write of the item at the first place that passes
pub found_at : {A : Type 0} (q : A → Bool) (xs : List A) (y : A)
    → position_or_len q xs < length xs
    → set xs (position_or_len q xs) y ≡ change_first q (λ x. y) xs
found_at q [] y l = refl
found_at q (x ∷ xs) y l = by (q x) refl l (λ m. found_at q xs y m)
  where
    by : (b : Bool) → q x ≡ b → position_or_len q (x ∷ xs) < suc (length xs)
        → (position_or_len q xs < length xs
        → set xs (position_or_len q xs) y ≡ change_first q (λ z. y) xs)
        → set (x ∷ xs) (position_or_len q (x ∷ xs)) y
        ≡ cond b (y ∷ xs) (x ∷ change_first q (λ z. y) xs)
    by true e l more = ap (λ i. set (x ∷ xs) i y) (place_here q x xs e)
    by false e l more =
        let next = place_behind q x xs e in
        ap (λ i. set (x ∷ xs) i y) next
        ∙ ap (λ ys. x ∷ ys) (more (omega (arith, l, next)))

-- nothing changes where none passes
pub found_past : {A : Type 0} (q : A → Bool) (xs : List A) (y : A)
    → length xs ≤ position_or_len q xs → xs ≡ change_first q (λ x. y) xs
found_past q [] y l = refl
found_past q (x ∷ xs) y l = by (q x) refl l (λ m. found_past q xs y m)
  where
    by : (b : Bool) → q x ≡ b → suc (length xs) ≤ position_or_len q (x ∷ xs)
        → (length xs ≤ position_or_len q xs → xs ≡ change_first q (λ z. y) xs)
        → x ∷ xs ≡ cond b (y ∷ xs) (x ∷ change_first q (λ z. y) xs)
    by true e l more = absurd (omega (arith, l, place_here q x xs e))
    by false e l more =
        ap (λ ys. x ∷ ys) (more (omega (arith, l, place_behind q x xs e)))

-- rising partitions don't fall
pub rows_rise : (rows : List Row) → AreRising (row_partitions rows)
    → IsNonDecreasingBy (λ r. r.partition) rows
rows_rise rows rising i j d le l = by (i == j) refl
  where
    by : (b : Bool) → (i == j) ≡ b → (get_or rows i d).partition ≤ (get_or rows j d).partition
    by true e =
        let same : i ≡ j = grind (arith, nat_tests, e) in
        rw same (omega arith)
    by false e =
        let less : i < j = grind (arith, nat_tests, e, le) in
        let h = rising i j 0 less (omega (arith, length-map rows (λ r. r.partition), l)) in
        omega (
          arith,
          h,
          get_or-map (λ r. r.partition) rows i d 0 (omega (arith, le, l)),
          get_or-map (λ r. r.partition) rows j d 0 l,
        )

-- the row at the place of a partition is its row
pub place_passes : (rows : List Row) (p place : ℕ) (d : Row)
    → place ≡ position_or_len (is_row_of p) rows → place < length rows
    → p ≡ (get_or rows place d).partition
place_passes rows p place d is l =
    let passes : (((get_or rows (position_or_len (is_row_of p) rows) d).partition) == p) ≡ true =
    passes_at_first (is_row_of p) rows d (omega (arith, is, l)) in
    rw is (grind (arith, nat_tests, passes))

-- rows below a place are of smaller partitions, and those from there on aren't
abbrev pub IsParted : List Row → ℕ → ℕ → Type 0
IsParted rows p place =
    ((k : ℕ) (d : Row) → k < place → (get_or rows k d).partition < p)
    × ((k : ℕ) (d : Row) → place ≤ k → k < length rows → p ≤ (get_or rows k d).partition)

-- as a search says it
pub parted_from : (rows : List Row) (p place : ℕ)
    → IsPartitionPoint (λ r. ltb r.partition p ≡ true) (λ r. ltb r.partition p ≡ false) rows place
    → IsParted rows p place
parted_from rows p place point = (
  λ k d l. (let h = point.0 k d (omega arith) l in grind (arith, nat_tests, h)),
  λ k d le l. (let h = point.1 k d le l in grind (arith, nat_tests, h)),
)

-- an item that is there, whatever is read past the end
pub get_same : {A : Type 0} (xs : List A) (i : ℕ) (d e : A) → i < length xs
    → get_or xs i d ≡ get_or xs i e
get_same [] i d e l = absurd (omega (arith, l))
get_same (x ∷ xs) zero d e l = refl
get_same (x ∷ xs) (suc i) d e l = get_same xs i d e (omega (arith, l))

-- one that was read as an item of a list that is the same
pub read_same : {A : Type 0} (xs ys : List A) (i : ℕ) (d e : A) → ys ≡ xs → i < length xs
    → get_or xs i e ≡ get_or ys i d
read_same xs ys i d e same l =
    get_same xs i e d l ∙ ap (λ zs. get_or zs i d) (sym same)

-- the first place that passes, where items are read
pub first_is : {A : Type 0} (q : A → Bool) (xs : List A) (place : ℕ) → place ≤ length xs
    → ((k : ℕ) (d : A) → k < place → q (get_or xs k d) ≡ false)
    → ((d : A) → place < length xs → q (get_or xs place d) ≡ true)
    → place ≡ position_or_len q xs
first_is q [] place le none some = omega (arith, le)
first_is q (x ∷ xs) place le none some =
    sym (position_or_len_is q (x ∷ xs) place x le (λ k l. none k x l) (λ l. some x l))

-- the row of a partition stands there
pub sought : (rows : List Row) (p place : ℕ) → place ≤ length rows → IsParted rows p place
    → ((d : Row) → place < length rows → (get_or rows place d).partition ≡ p)
    → place ≡ position_or_len (is_row_of p) rows
sought rows p place le parted same =
    first_is (is_row_of p) rows place le
    (λ k d m. (let h = parted.0 k d m in grind (arith, nat_tests, h)))
    (λ d m. (let h = same d m in grind (arith, nat_tests, h)))

-- numbers that differ don't pass as one
not_same : (q p : ℕ) → (q ≡ p → ⊥) → (q == p) ≡ false
not_same q p h = by (q == p) refl
  where
    by : (b : Bool) → (q == p) ≡ b → b ≡ false
    by true e = absurd (h (grind (arith, nat_tests, e)))
    by false e = refl

-- a row behind another is of a higher partition
rows_above : (rows : List Row) → AreRising (row_partitions rows) → (i j : ℕ) (d : Row) → i < j
    → j < length rows → (get_or rows i d).partition < (get_or rows j d).partition
rows_above rows rising i j d lt l =
    let h = rising i j 0 lt (omega (arith, length-map rows (λ r. r.partition), l)) in
    omega (
      arith,
      h,
      get_or-map (λ r. r.partition) rows i d 0 (omega (arith, lt, l)),
      get_or-map (λ r. r.partition) rows j d 0 l,
    )

-- where it stands at a place that was guessed
pub guessed : (rows : List Row) (p place : ℕ) (d : Row) → AreRising (row_partitions rows)
    → place < length rows → (get_or rows place d).partition ≡ p
    → place ≡ position_or_len (is_row_of p) rows
guessed rows p place d rising l here =
    first_is (is_row_of p) rows place (omega (arith, l))
    (λ k e m. (let up = rows_above rows rising k place e m l in
    let same = ap (λ r. r.partition) (get_same rows place e d l) in
    grind (arith, nat_tests, up, same, here)))
    (λ e m. (let same = ap (λ r. r.partition) (get_same rows place e d l) in
    grind (arith, nat_tests, same, here)))

-- or there is none
pub unsought : (rows : List Row) (p place : ℕ) → AreRising (row_partitions rows)
    → IsParted rows p place
    → ((d : Row) → place < length rows → (get_or rows place d).partition ≡ p → ⊥)
    → length rows ≡ position_or_len (is_row_of p) rows
unsought rows p place rising parted apart =
    first_is (is_row_of p) rows (length rows) (omega arith) none
    (λ d m. absurd (omega (arith, m)))
  where
    none : (k : ℕ) (d : Row) → k < length rows → is_row_of p (get_or rows k d) ≡ false
    none k d m = by (nat_lt k place) refl
      where
        by : (b : Bool) → nat_lt k place ≡ b → is_row_of p (get_or rows k d) ≡ false
        by true e =
            let below : k < place = grind (arith, nat_tests, e) in
            let h = parted.0 k d below in
            grind (arith, nat_tests, h)
        by false e =
            let from : place ≤ k = grind (arith, nat_tests, e) in
            or (k == place) refl from
          where
            or : (b : Bool) → (k == place) ≡ b → place ≤ k
                → is_row_of p (get_or rows k d) ≡ false
            or true f from =
                let here : k ≡ place = grind (arith, nat_tests, f) in
                not_same (get_or rows k d).partition p
                (λ g. apart d (omega (arith, here, m))
                (ap (λ i. (get_or rows i d).partition) (sym here) ∙ g))
            or false f from =
                let less : place < k = grind (arith, nat_tests, f, from) in
                let up = rows_above rows rising place k d less m in
                let h = parted.1 place d (omega arith) (omega (arith, less, m)) in
                grind (arith, nat_tests, up, h)

-- ---- changes

-- a row in the place of the one of its partition, seen
pub first_replaced :
    {A B : Type 0} (v : A → B) (q : A → Bool) (w : B → Bool) (g : B → B)
    → ((x : A) → q x ≡ w (v x)) → (xs : List A) (x y : A) → Some x ≡ find q xs
    → v y ≡ g (v x) → map v (change_first q (λ z. y) xs) ≡ change_first w g (map v xs)
first_replaced v q w g same [] x y found is = absurd (search (rules, found))
first_replaced v q w g same (z ∷ zs) x y found is =
    rw (← same z) (by (q z) found (λ f. first_replaced v q w g same zs x y f is))
  where
    by : (b : Bool) → Some x ≡ cond b (Some z) (find q zs)
        → (Some x ≡ find q zs → map v (change_first q (λ u. y) zs) ≡ change_first w g (map v zs))
        → map v (cond b (y ∷ zs) (z ∷ change_first q (λ u. y) zs))
        ≡ cond b (g (v z) ∷ map v zs) (v z ∷ change_first w g (map v zs))
    by true f more =
        let here : x ≡ z = search (rules, f) in
        ap (λ u. u ∷ map v zs) (is ∙ ap (λ u. g (v u)) here)
    by false f more = ap (λ us. v z ∷ us) (more f)

-- nothing changes where none is found
pub none_replaced :
    {A B : Type 0} (v : A → B) (q : A → Bool) (w : B → Bool) (g : B → B)
    → ((x : A) → q x ≡ w (v x)) → (xs : List A) → None ≡ find q xs
    → map v xs ≡ change_first w g (map v xs)
none_replaced v q w g same [] none = refl
none_replaced v q w g same (z ∷ zs) none =
    rw (← same z) (by (q z) none (λ n. none_replaced v q w g same zs n))
  where
    by : (b : Bool) → None ≡ cond b (Some z) (find q zs)
        → (None ≡ find q zs → map v zs ≡ change_first w g (map v zs))
        → v z ∷ map v zs ≡ cond b (g (v z) ∷ map v zs) (v z ∷ change_first w g (map v zs))
    by true n more = absurd (search (rules, n))
    by false n more = ap (λ us. v z ∷ us) (more n)

-- a row put in the place of the one of its partition is a change of that task
pub task_replaced :
    (failures : List Failure) (rows : List Row) (p : ℕ) (x y : Row) (g : TaskData → TaskData)
    → ((t : TaskData) → (g t).partition ≡ t.partition) → Some x ≡ find (is_row_of p) rows
    → ((fs : List Failure) → task_of fs y ≡ g (task_of fs x))
    → tasks_of failures (change_first (is_row_of y.partition) (λ r. y) rows)
    ≡ with_task p g (tasks_of failures rows)
task_replaced failures rows p x y g keeps found is =
    let passes : (x.partition == p) ≡ true = found_passes (is_row_of p) rows x (sym found) in
    let of : y.partition ≡ p =
    ap (λ t. t.partition) (is []) ∙ keeps (task_of [] x) ∙ (grind (arith, nat_tests, passes)) in
    ap (λ n. tasks_of failures (change_first (is_row_of n) (λ r. y) rows)) of
    ∙ first_replaced (task_of failures) (is_row_of p) (is_task_of p) g (λ r. refl) rows x y found
    (is failures)

-- rows below the first pending one, where one was put
pub none_below : (rows : List Row) (place from : ℕ) (row : Row)
    → from ≤ position_or_len is_pending_row rows
    → (is_pending_row row ≡ true → from ≤ place) → NonePendingBelow (set rows place row) from
none_below rows place from row le here k d l = by (k == place) refl
  where
    by : (b : Bool) → (k == place) ≡ b → is_pending_row (get_or (set rows place row) k d) ≡ false
    by true e =
        let same : k ≡ place = grind (arith, nat_tests, e) in
        let first : position_or_len is_pending_row rows ≤ length rows =
        prefix_len-le-length (λ r. not (is_pending_row r)) rows in
        rw (get_or-set_at rows place k row d same (omega (arith, same, l, le, first)))
        (not_here (is_pending_row row) refl (omega (arith, same, l)))
      where
        not_here : (c : Bool) → is_pending_row row ≡ c → place < from → c ≡ false
        not_here true f m = absurd (omega (arith, here f, m))
        not_here false f m = refl
    by false e =
        let apart : k ≡ place → ⊥ = λ same. grind (arith, nat_tests, e, same) in
        rw (get_or-set_other rows place k row d apart)
        (fails_before_first is_pending_row rows k d (omega (arith, l, le)))

-- a row put in the place of another one of its partition keeps the partitions
pub partitions_kept : (rows : List Row) (place : ℕ) (row : Row)
    → row.partition ≡ (get_or rows place row).partition
    → AreRising (row_partitions rows) → AreRising (row_partitions (set rows place row))
partitions_kept rows place row same rising =
    rw (map-set_same (λ r. r.partition) rows place row row same) rising

-- an open row that takes the place of another is counted in its stead
pub open_kept : (rows : List Row) (place before after : ℕ) (row : Row)
    → place < length rows → before ≡ count_by is_open_row rows
    → after + cond (is_open_row (get_or rows place row)) 1 0
    ≡ before + cond (is_open_row row) 1 0
    → after ≡ count_by is_open_row (set rows place row)
open_kept rows place before after row l counted anew =
    omega (arith, sum_by-set (λ r. cond (is_open_row r) 1 0) rows place row row l, counted, anew)

-- fresh rows are all open, and the first one is to be handed out
pub fresh_indexed : (rows : List Row) (marks : Marks) → AreFresh rows → AreMarked marks rows
    → MarksFit marks (length rows) → IsIndexed rows (length rows) 0 marks
fresh_indexed rows marks fresh marked fit =
    record {
      rising = fresh.rising;
      counted = sym (all rows fresh.fresh);
      first = first rows fresh.fresh;
      marked = marked;
      fit = fit;
    }
  where
    all : (xs : List Row) → tasks_of [] xs ≡ map fresh_task (row_partitions xs)
        → count_by is_open_row xs ≡ length xs
    all [] is = refl
    all (x ∷ xs) is =
        let here : task_of [] x ≡ fresh_task x.partition = search (rules, is) in
        let rest : tasks_of [] xs ≡ map fresh_task (row_partitions xs) = search (rules, is) in
        let unended : is_open_row x ≡ true = ap (λ t. not (is_finish t.finish)) here in
        rw (count_cons is_open_row x xs, unended) (omega (arith, all xs rest))

    first : (xs : List Row) → tasks_of [] xs ≡ map fresh_task (row_partitions xs)
        → 0 ≡ position_or_len is_pending_row xs
    first [] is = refl
    first (x ∷ xs) is =
        let here : task_of [] x ≡ fresh_task x.partition = search (rules, is) in
        let pending : is_pending_row x ≡ true = ap is_pending_task here in
        sym (place_here is_pending_row x xs pending)
