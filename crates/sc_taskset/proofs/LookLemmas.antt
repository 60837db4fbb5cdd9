-- How many rows are looked at.
use Rattle.std.proofs.Common.{◌&&◌, not, true≢false, ◌≡◌, ℕ, ◌+◌, ◌<◌, ◌≤◌, zero, suc, Bool, true, false, cond, List, [], ◌∷◌, length, get_or, take, map, None, refl, sym, ◌∙◌, arith}
use Rattle.std.proofs.lemmas.List.Sums.{count_by_more_yes, sum_by-cons}
use Rattle.std.specs.List.{count_by, find}
use Rattle.sc_taskset.specs.Flags.{HoldFlags, is_set}
use Rattle.sc_taskset.specs.Lookups.{is_there_and, task_at}
use Rattle.sc_taskset.specs.Looks.{is_single_task}
use Rattle.sc_taskset.specs.Marks.{is_single_row}
use Rattle.sc_taskset.specs.Offers.{is_pending_task}
use Rattle.sc_taskset.specs.Rows.{task_of, tasks_of}
use Rattle.sc_taskset.specs.TaskSetData.{TaskData}
use Rattle.sc_taskset.specs.declared.rows.Failure.{Failure}
use Rattle.sc_taskset.specs.declared.rows.Row.{Row}
use Rattle.sc_taskset.proofs.FindLemmas.{none_found}
use Rattle.sc_taskset.proofs.MarkLemmas.{at_here}

-- ---- counts of the first items

-- an item more or less counts for at least none
cond_cons : {A : Type 0} (q : A → Bool) (x : A) (xs : List A)
    → count_by q (x ∷ xs) ≡ cond (q x) 1 0 + count_by q xs
cond_cons q x xs = sum_by-cons (λ y. cond (q y) 1 0) x xs

none_taken : {A : Type 0} (q : A → Bool) (i : ℕ) → count_by q (take i []) ≡ 0
none_taken q zero = refl
none_taken q (suc i) = refl

-- more items have no fewer that pass
pub count_take_more : {A : Type 0} (q : A → Bool) (xs : List A) (i j : ℕ) → i ≤ j
    → count_by q (take i xs) ≤ count_by q (take j xs)
count_take_more q [] i j le = omega (arith, none_taken q i)
count_take_more q (x ∷ xs) zero j le = omega arith
count_take_more q (x ∷ xs) (suc i) zero le = absurd (omega (arith, le))
count_take_more q (x ∷ xs) (suc i) (suc j) le =
    omega (
      arith,
      cond_cons q x (take i xs),
      cond_cons q x (take j xs),
      count_take_more q xs i j (omega (arith, le)),
    )

-- nor have all
pub count_take_all : {A : Type 0} (q : A → Bool) (xs : List A) (i : ℕ)
    → count_by q (take i xs) ≤ count_by q xs
count_take_all q [] i = omega (arith, none_taken q i)
count_take_all q (x ∷ xs) zero = omega arith
count_take_all q (x ∷ xs) (suc i) =
    omega (arith, cond_cons q x (take i xs), cond_cons q x xs, count_take_all q xs i)

-- ---- rows of which one attempt runs alone

-- a marked place has one
pub single_here : (rows : List Row) (words : List ℕ) (place : ℕ) (d : Row)
    → HoldFlags words (map is_single_row rows) → place < length rows
    → is_set words place ≡ true → is_single_row (get_or rows place d) ≡ true
single_here rows words place d held l is =
    sym (at_here is_single_row rows place d l) ∙ sym (held place) ∙ is

-- one that was looked at is one more of them
pub single_more : (rows : List Row) (words : List ℕ) (place : ℕ)
    → HoldFlags words (map is_single_row rows) → place < length rows
    → is_set words place ≡ true
    → count_by is_single_row (take (place + 1) rows)
    ≡ count_by is_single_row (take place rows) + 1
single_more [] words place held l is = absurd (omega (arith, l))
single_more (r ∷ rows) words place held l is =
    count_by_more_yes is_single_row (r ∷ rows) place r l
    (single_here (r ∷ rows) words place r held l is)

-- rows and their tasks
pub singles_seen : (failures : List Failure) (rows : List Row)
    → count_by is_single_task (tasks_of failures rows) ≡ count_by is_single_row rows
singles_seen failures [] = refl
singles_seen failures (r ∷ rows) =
    omega (
      arith,
      cond_cons is_single_task (task_of failures r) (tasks_of failures rows),
      cond_cons is_single_row r rows,
      singles_seen failures rows,
    )

-- where no task is to be handed out, no partition is pending
pub never_pending : (tasks : List TaskData) (zombie : Bool) (partition : ℕ)
    → find is_pending_task tasks ≡ None
    → (not zombie && is_there_and is_pending_task (task_at partition tasks)) ≡ true → ⊥
never_pending tasks true partition none is = true≢false (sym is)
never_pending tasks false partition none is =
    true≢false (sym is ∙ none_found is_pending_task tasks none partition)
