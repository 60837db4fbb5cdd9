-- Rows of an executor that is lost, one after another.
use Rattle.std.proofs.Common.{◌≡◌, ℕ, ◌+◌, ◌<◌, ◌==◌, ◌⊎◌, inl, inr, zero, suc, Bool, true, false, cond, ◌||◌, List, [], ◌∷◌, length, get_or, set, take, map, refl, ap, sym, subst, ◌∙◌, arith, rules, true≢false, get_or-set_other, length-set}
use Rattle.std.proofs.lemmas.Bool.{cases_eq}
use Rattle.std.proofs.lemmas.Bool.Decides.{nat_tests}
use Rattle.std.proofs.lemmas.Grind.{get_or-set_at}
use Rattle.std.proofs.lemmas.List.{length-map, map-set}
use Rattle.std.proofs.lemmas.List.Folds.{list_any_at, list_any_more}
use Rattle.std.proofs.lemmas.List.Sums.{sum_by-cons}
use Rattle.std.proofs.Math.ListN.{get_or-map}
use Rattle.std.proofs.Math.Seq.{map-set_same}
use Rattle.std.specs.List.{count_by, remove}
use Rattle.sc_base.specs.Lists.{at_or}
use Rattle.sc_taskset.specs.Lists.{AreListed, AreSameBut, IsListOf, IsWithout, has_place, is_row_on, list_of}
use Rattle.sc_taskset.specs.Looks.{is_task_on}
use Rattle.sc_taskset.specs.Marks.{is_pending_row}
use Rattle.sc_taskset.specs.Offers.{is_pending_task}
use Rattle.sc_taskset.specs.Reports.{lost_task}
use Rattle.sc_taskset.specs.Rows.{task_of, tasks_of}
use Rattle.sc_taskset.specs.TaskSetData.{TaskData}
use Rattle.sc_taskset.specs.declared.lists.Lists.{Lists}
use Rattle.sc_taskset.specs.declared.rows.Failure.{Failure}
use Rattle.sc_taskset.specs.declared.rows.Row.{Row}
use Rattle.sc_taskset.proofs.MarkLemmas.{at_here}
use Rattle.sc_taskset.proofs.OnLemmas.{lost_elsewhere, lost_fewer, lost_off, lost_pending, lost_twice}
use Rattle.sc_taskset.proofs.PlaceLemmas.{flag_same, list_less, list_without, without_at}
use Rattle.sc_taskset.proofs.TableLemmas.{get_same}

-- a loss leaves a row's task as it is
abbrev pub IsQuiet : ℕ → Bool → Row → Type 0
IsQuiet exec redoes r =
    (failures : List Failure) → lost_task exec redoes (task_of failures r) ≡ task_of failures r

-- a row after the loss
abbrev pub IsLostRow : ℕ → Bool → Row → Row → Type 0
IsLostRow exec redoes before row =
    (failures : List Failure)
    → task_of failures row ≡ lost_task exec redoes (task_of failures before)

-- all rows that a loss changes stand at these places
abbrev pub AreLeft : ℕ → Bool → List ℕ → List Row → Type 0
AreLeft exec redoes places rows =
    (k : ℕ) (d : Row) → k < length rows
    → (has_place places k ≡ true) ⊎ IsQuiet exec redoes (get_or rows k d)

-- a loss makes the same of two lists of rows
abbrev pub IsLossOf : ℕ → Bool → List Row → List Row → Type 0
IsLossOf exec redoes before rows =
    (failures : List Failure) → map (lost_task exec redoes) (tasks_of failures rows)
    ≡ map (lost_task exec redoes) (tasks_of failures before)

-- ---- one row

quiet_off : (exec : ℕ) (redoes : Bool) (r : Row) → is_row_on exec r ≡ false
    → IsQuiet exec redoes r
quiet_off exec redoes r off failures = lost_off exec redoes (task_of failures r) off

quiet_lost : (exec : ℕ) (redoes : Bool) (before row : Row) → IsLostRow exec redoes before row
    → IsQuiet exec redoes row
quiet_lost exec redoes before row lost failures =
    ap (lost_task exec redoes) (lost failures)
    ∙ lost_twice exec redoes (task_of failures before) ∙ sym (lost failures)

on_before : (exec : ℕ) (redoes : Bool) (before row : Row) → IsLostRow exec redoes before row
    → is_row_on exec row ≡ true → is_row_on exec before ≡ true
on_before exec redoes before row lost on =
    lost_fewer exec exec redoes (task_of [] before)
    (sym (ap (is_task_on exec) (lost [])) ∙ on)

-- ---- all rows

-- at the start
pub left_first : (exec : ℕ) (redoes : Bool) (places : List ℕ) (rows : List Row)
    → IsListOf places (map (is_row_on exec) rows) → AreLeft exec redoes places rows
left_first exec redoes places rows listed k d l = by (is_row_on exec (get_or rows k d)) refl
  where
    by : (b : Bool) → is_row_on exec (get_or rows k d) ≡ b
        → (has_place places k ≡ true) ⊎ IsQuiet exec redoes (get_or rows k d)
    by true e = inl (listed.all k (at_here (is_row_on exec) rows k d l ∙ e))
    by false e = inr (quiet_off exec redoes (get_or rows k d) e)

-- at the end
pub left_none : (exec : ℕ) (redoes : Bool) (rows : List Row) → AreLeft exec redoes [] rows
    → (failures : List Failure)
    → map (lost_task exec redoes) (tasks_of failures rows) ≡ tasks_of failures rows
left_none exec redoes [] left failures = refl
left_none exec redoes (r ∷ rows) left failures =
    first (left 0 r (omega arith))
    (left_none exec redoes rows (λ k d l. left (suc k) d (omega (arith, l))) failures)
  where
    first : (has_place [] 0 ≡ true) ⊎ IsQuiet exec redoes r
        → map (lost_task exec redoes) (tasks_of failures rows) ≡ tasks_of failures rows
        → map (lost_task exec redoes) (tasks_of failures (r ∷ rows)) ≡ tasks_of failures (r ∷ rows)
    first (inl has) rest = absurd (true≢false (sym has))
    first (inr quiet) rest =
        ap (λ t. t ∷ map (lost_task exec redoes) (tasks_of failures rows)) (quiet failures)
        ∙ ap (λ ts. task_of failures r ∷ ts) rest

-- one more row was lost, the one at the last of the places
left_less : (exec : ℕ) (redoes : Bool) (places : List ℕ) (at place : ℕ) (rows : List Row)
    (before row : Row) → at < length places → get_or places at 0 ≡ place → place < length rows
    → IsLostRow exec redoes before row
    → AreLeft exec redoes (take (at + 1) places) rows
    → AreLeft exec redoes (take at places) (set rows place row)
left_less exec redoes places at place rows before row l here within lost left k d m =
    by (cases_eq k place)
  where
    split : has_place (take (at + 1) places) k
        ≡ (has_place (take at places) k || (get_or places at 0 == k))
    split = list_any_more (λ p. p == k) places at 0 l

    or : (a b : Bool) → (b ≡ true → ⊥) → (a || b) ≡ true → a ≡ true
    or true b not e = refl
    or false true not e = absurd (not refl)
    or false false not e = e

    other : (k ≡ place → ⊥)
        → (has_place (take (at + 1) places) k ≡ true) ⊎ IsQuiet exec redoes (get_or rows k d)
        → (has_place (take at places) k ≡ true) ⊎ IsQuiet exec redoes (get_or rows k d)
    other ne (inl has) =
        inl (or (has_place (take at places) k) (get_or places at 0 == k)
        (λ e. ne (grind (arith, nat_tests, e, here))) (sym split ∙ has))
    other ne (inr quiet) = inr quiet

    by : (k ≡ place) ⊎ (k ≡ place → ⊥)
        → (has_place (take at places) k ≡ true)
        ⊎ IsQuiet exec redoes (get_or (set rows place row) k d)
    by (inl e) =
        inr (subst (IsQuiet exec redoes) (sym (get_or-set_at rows place k row d e within))
        (quiet_lost exec redoes before row lost))
    by (inr ne) =
        subst (λ r. (has_place (take at places) k ≡ true) ⊎ IsQuiet exec redoes r)
        (sym (get_or-set_other rows place k row d ne))
        (other ne (left k d (omega (arith, m, length-set rows place row))))

-- ---- one step of the loop

-- what stands before a place that is taken out stays
take_remove : (xs : List ℕ) (at : ℕ) → take at (remove xs at) ≡ take at xs
take_remove [] zero = refl
take_remove [] (suc at) = search rules
take_remove (x ∷ xs) zero = refl
take_remove (x ∷ xs) (suc at) = ap (λ ys. x ∷ ys) (take_remove xs at)

-- a place among some is one of a row
pub place_there : (exec : ℕ) (places : List ℕ) (rows : List Row) (at place : ℕ)
    → at < length places → get_or places at 0 ≡ place
    → IsListOf places (map (is_row_on exec) rows) → place < length rows
place_there exec places rows at place l here listed =
    let has : has_place places place ≡ true =
    list_any_at (λ p. p == place) places at 0 l (grind (arith, nat_tests, here)) in
    omega (arith, listed.within place has, length-map rows (is_row_on exec))

-- the row at a place, which was read as one of a slice
pub lost_there : (exec : ℕ) (redoes : Bool) (rows slice : List Row) (place : ℕ) (d row : Row)
    → slice ≡ rows → place < length rows → IsLostRow exec redoes (get_or slice place d) row
    → IsLostRow exec redoes (get_or rows place row) row
lost_there exec redoes rows slice place d row same l lost failures =
    lost failures
    ∙ ap (λ xs. lost_task exec redoes (task_of failures (get_or xs place d))) same
    ∙ ap (λ r. lost_task exec redoes (task_of failures r)) (get_same rows place d row l)

module _ (exec : ℕ) (redoes : Bool) (rows : List Row) (place : ℕ) (row : Row)
    (lost : IsLostRow exec redoes (get_or rows place row) row) where
  pub lost_partition : row.partition ≡ (get_or rows place row).partition
  lost_partition = ap (λ t. t.partition) (lost [])

  pub lost_freed : is_pending_row (get_or rows place row) ≡ true → is_pending_row row ≡ true
  lost_freed is =
      ap is_pending_task (lost [])
      ∙ lost_pending exec redoes (task_of [] (get_or rows place row)) is

  -- the row on its executor before and after
  flag : place < length rows
      → at_or (map (is_row_on exec) rows) place false ≡ is_row_on exec (get_or rows place row)
  flag within = at_here (is_row_on exec) rows place row within

  -- it keeps its place where it is still on the executor
  pub listed_on : (places : List ℕ) → place < length rows → is_row_on exec row ≡ true
      → IsListOf places (map (is_row_on exec) rows)
      → IsListOf places (map (is_row_on exec) (set rows place row))
  listed_on places within on listed =
      rw (
        map-set (is_row_on exec) rows place row,
        flag_same (map (is_row_on exec) rows) place (is_row_on exec row)
            (rw length-map within)
            (flag within ∙ on_before exec redoes (get_or rows place row) row lost on ∙ sym on),
      )
      listed

  -- and else loses it
  pub listed_off : (places : List ℕ) (at : ℕ) → at < length places → get_or places at 0 ≡ place
      → place < length rows → is_row_on exec row ≡ false
      → IsListOf places (map (is_row_on exec) rows)
      → IsListOf (remove places at) (map (is_row_on exec) (set rows place row))
  listed_off places at l here within off listed =
      rw (map-set (is_row_on exec) rows place row, off)
      (by (is_row_on exec (get_or rows place row)) refl)
    where
      without : IsWithout places (remove places at) place
      without = without_at places at place l here

      by : (b : Bool) → is_row_on exec (get_or rows place row) ≡ b
          → IsListOf (remove places at) (set (map (is_row_on exec) rows) place false)
      by true was =
          list_less places (map (is_row_on exec) rows) place listed (remove places at)
          (flag within ∙ was) without
      by false was =
          rw (flag_same (map (is_row_on exec) rows) place false (rw length-map within)
          (flag within ∙ was))
          (list_without places (map (is_row_on exec) rows) place listed (remove places at)
          (flag within ∙ was) without)

  -- what is left stands before its place
  pub left_on : (places : List ℕ) (at n : ℕ) → n ≡ at + 1 → at < length places
      → get_or places at 0 ≡ place → place < length rows
      → AreLeft exec redoes (take n places) rows
      → AreLeft exec redoes (take at places) (set rows place row)
  left_on places at n next l here within left =
      left_less exec redoes places at place rows (get_or rows place row) row l here within lost
      (subst (λ m. AreLeft exec redoes (take m places) rows) next left)

  pub left_off : (places : List ℕ) (at n : ℕ) → n ≡ at + 1 → at < length places
      → get_or places at 0 ≡ place → place < length rows
      → AreLeft exec redoes (take n places) rows
      → AreLeft exec redoes (take at (remove places at)) (set rows place row)
  left_off places at n next l here within left =
      subst (λ xs. AreLeft exec redoes xs (set rows place row)) (sym (take_remove places at))
      (left_on places at n next l here within left)

  -- the loss makes the same of the rows
  pub same_next : (first : List Row) → IsLossOf exec redoes first rows
      → IsLossOf exec redoes first (set rows place row)
  same_next first same failures =
      ap (map (lost_task exec redoes)) (map-set (task_of failures) rows place row)
      ∙ map-set_same (lost_task exec redoes) (tasks_of failures rows) place
      (task_of failures row) (task_of failures row)
      (ap (lost_task exec redoes) (lost failures)
      ∙ lost_twice exec redoes (task_of failures (get_or rows place row))
      ∙ ap (lost_task exec redoes) (sym (get_or-map (task_of failures) rows place row)))
      ∙ same failures

-- ---- all executors

-- the rows on another executor
on_others : (e exec : ℕ) (redoes : Bool) (rows now : List Row) → (e ≡ exec → ⊥)
    → tasks_of [] now ≡ map (lost_task exec redoes) (tasks_of [] rows)
    → map (is_row_on e) now ≡ map (is_row_on e) rows
on_others e exec redoes rows now ne lost =
    seen now ∙ ap (map (is_task_on e)) lost ∙ kept (tasks_of [] rows) ∙ sym (seen rows)
  where
    seen : (xs : List Row) → map (is_row_on e) xs ≡ map (is_task_on e) (tasks_of [] xs)
    seen [] = refl
    seen (x ∷ xs) = ap (λ bs. is_row_on e x ∷ bs) (seen xs)

    kept : (ts : List TaskData)
        → map (is_task_on e) (map (lost_task exec redoes) ts) ≡ map (is_task_on e) ts
    kept [] = refl
    kept (t ∷ ts) =
        rw (lost_elsewhere e exec redoes t ne) (ap (λ bs. is_task_on e t ∷ bs) (kept ts))

pub lost_listed : (old now : Lists) (exec : ℕ) (redoes : Bool) (rows after : List Row)
    → AreListed old rows → IsListOf (list_of now exec) (map (is_row_on exec) after)
    → AreSameBut exec old now → tasks_of [] after ≡ map (lost_task exec redoes) (tasks_of [] rows)
    → AreListed now after
lost_listed old now exec redoes rows after listed here others lost e = by (cases_eq e exec)
  where
    by : (e ≡ exec) ⊎ (e ≡ exec → ⊥) → IsListOf (list_of now e) (map (is_row_on e) after)
    by (inl q) =
        subst (λ x. IsListOf (list_of now x) (map (is_row_on x) after)) (sym q) here
    by (inr ne) =
        rw (others e ne, on_others e exec redoes rows after ne lost) (listed e)

-- where no row is on the executor, nothing is lost
pub none_lost : (exec : ℕ) (redoes : Bool) (places : List ℕ) (rows : List Row) → places ≡ []
    → IsListOf places (map (is_row_on exec) rows) → (failures : List Failure)
    → tasks_of failures rows ≡ map (lost_task exec redoes) (tasks_of failures rows)
none_lost exec redoes places rows none listed failures =
    sym (left_none exec redoes rows
    (subst (λ xs. AreLeft exec redoes xs rows) none (left_first exec redoes places rows listed))
    failures)

-- how many tasks are on an executor
pub on_seen : (exec : ℕ) (failures : List Failure) (rows : List Row)
    → count_by (is_task_on exec) (tasks_of failures rows) ≡ count_by (is_row_on exec) rows
on_seen exec failures [] = refl
on_seen exec failures (r ∷ rows) =
    omega (
      arith,
      sum_by-cons (λ t. cond (is_task_on exec t) 1 0) (task_of failures r) (tasks_of failures rows),
      sum_by-cons (λ x. cond (is_row_on exec x) 1 0) r rows,
      on_seen exec failures rows,
    )
