-- Where the tasks stand that an executor has finished, or of which an attempt runs on it.
use Rattle.std.specs.Prelude.{ℕ, ◌≡◌, ◌==◌, ◌<◌, ◌≤◌, ◌++◌, ◌∷◌, ◌||◌, Bool, true, false, List, [], Option, Some, length, count_by, map}
use Rattle.std.specs.List.{list_any}
use Rattle.sc_base.specs.Lists.{at_or}
use Rattle.sc_taskset.specs.declared.lists.Lists.{Lists}
use Rattle.sc_taskset.specs.declared.rows.Row.{Row}
use Rattle.sc_taskset.specs.Looks.{is_task_on}
use Rattle.sc_taskset.specs.Rows.{task_of}

-- a row's task was finished on an executor, or an attempt of it runs there
abbrev pub is_row_on : ℕ → Row → Bool
is_row_on exec r = is_task_on exec (task_of [] r)

-- a place is among some
abbrev pub has_place : List ℕ → ℕ → Bool
has_place places place = list_any (λ p. p == place) places

-- Places of what is flagged: all of them, and no more than there are flags.
pub record IsListOf (places : List ℕ) (flags : List Bool) : Type 0 where
  pub all : (k : ℕ) → at_or flags k false ≡ true → has_place places k ≡ true
  pub few : length places ≤ count_by (λ b. b) flags
  pub within : (k : ℕ) → has_place places k ≡ true → k < length flags

-- the places of an executor
abbrev pub list_of : Lists → ℕ → List ℕ
list_of lists exec = at_or (map (λ v. v.items) lists.places.items) exec []

-- each executor has the places of the rows that are on it
abbrev pub AreListed : Lists → List Row → Type 0
AreListed lists rows = (exec : ℕ) → IsListOf (list_of lists exec) (map (is_row_on exec) rows)

-- ---- changes

-- places without one of them, if it was among them
pub record IsWithout (old new : List ℕ) (place : ℕ) : Type 0 where
  pub others : (p : ℕ) → (p ≡ place → ⊥) → has_place old p ≡ true → has_place new p ≡ true
  pub none_new : (p : ℕ) → has_place new p ≡ true → has_place old p ≡ true
  pub no_more : length new ≤ length old
  pub one_less : has_place old place ≡ true → length new < length old

-- the places of one executor have changed, if any
abbrev pub AreSameBut : ℕ → Lists → Lists → Type 0
AreSameBut exec old new = (e : ℕ) → (e ≡ exec → ⊥) → list_of new e ≡ list_of old e

-- one more place of an executor
pub record IsAdded (old new : Lists) (exec place : ℕ) : Type 0 where
  pub here : list_of new exec ≡ list_of old exec ++ place ∷ []
  pub others : AreSameBut exec old new

-- one place less of an executor, if it was among its places
pub record IsTaken (old new : Lists) (exec place : ℕ) : Type 0 where
  pub here : IsWithout (list_of old exec) (list_of new exec) place
  pub others : AreSameBut exec old new

-- an executor that may be there has lost the place of a row, unless the row is on it
pub record HasLeft (old new : Lists) (exec : Option ℕ) (place : ℕ) (row : Row) : Type 0 where
  pub here : (e : ℕ) → exec ≡ Some e → is_row_on e row ≡ false
      → IsWithout (list_of old e) (list_of new e) place
  pub others : (e : ℕ) → (exec ≡ Some e → is_row_on e row ≡ true)
      → list_of new e ≡ list_of old e

-- each executor has lost the place of a row that was on it and no longer is
pub record HaveLeft (old new : Lists) (place : ℕ) (before row : Row) : Type 0 where
  pub gone : (e : ℕ) → is_row_on e before ≡ true → is_row_on e row ≡ false
      → IsWithout (list_of old e) (list_of new e) place
  pub others : (e : ℕ) → (is_row_on e before ≡ true → is_row_on e row ≡ true)
      → list_of new e ≡ list_of old e

-- ---- rows

-- a row is on no executor that another one isn't on
abbrev pub IsOnFewer : Row → Row → Type 0
IsOnFewer before row = (e : ℕ) → is_row_on e row ≡ true → is_row_on e before ≡ true

-- a row is on one executor more than another one
abbrev pub IsOnOneMore : ℕ → Row → Row → Type 0
IsOnOneMore exec before row =
    (e : ℕ) → is_row_on e row ≡ (is_row_on e before || exec == e)
