-- Which rows of a set are marked.
use Rattle.std.proofs.Common.{◌≡◌, ℕ, ◌+◌, ◌<◌, ◌≤◌, ◌⊎◌, inl, inr, zero, suc, Bool, true, false, not, ◌&&◌, List, [], ◌∷◌, ◌++◌, length, get_or, set, map, Some, None, refl, ap, sym, ◌∙◌, arith, rules}
use Rattle.std.proofs.lemmas.Bool.{cases_eq, cases_lt}
use Rattle.std.specs.List.{find, list_any, position_or_len}
use Rattle.sc_base.specs.Lists.{at_or}
use Rattle.sc_taskset.specs.declared.marks.Marks.{Marks}
use Rattle.sc_taskset.specs.declared.rows.Row.{Row}
use Rattle.sc_taskset.specs.declared.tasks.RunningCopy.{RunningCopy}
use Rattle.sc_taskset.specs.Accounting.{is_single}
use Rattle.sc_taskset.specs.Flags.{HaveRoom, HoldFlags, IsPut, is_set}
use Rattle.sc_taskset.specs.Lookups.{is_finish, is_one_elsewhere}
use Rattle.sc_taskset.specs.Marks.{AreMarked, IsMarked, MarksFit, is_pending_row, is_single_row}
use Rattle.sc_taskset.specs.Rows.{copies_of}
use Rattle.sc_taskset.specs.Tables.{NonePendingBelow, is_copyable_row}
use Rattle.sc_taskset.proofs.TableLemmas.{first_is, get_same}

-- ---- items by their places, or others past the end

module _ {A : Type 0} (test : A → Bool) where
  -- an item that is there
  pub at_here : (xs : List A) (k : ℕ) (d : A) → k < length xs
      → at_or (map test xs) k false ≡ test (get_or xs k d)
  at_here [] k d l = absurd (omega (arith, l))
  at_here (x ∷ xs) zero d l = refl
  at_here (x ∷ xs) (suc k) d l = at_here xs k d (omega (arith, l))

  at_set_same : (xs : List A) (k : ℕ) (y : A) → k < length xs
      → at_or (map test (set xs k y)) k false ≡ test y
  at_set_same [] k y l = absurd (omega (arith, l))
  at_set_same (x ∷ xs) zero y l = refl
  at_set_same (x ∷ xs) (suc k) y l = at_set_same xs k y (omega (arith, l))

  at_set_other : (xs : List A) (k j : ℕ) (y : A) → (j ≡ k → ⊥)
      → at_or (map test (set xs k y)) j false ≡ at_or (map test xs) j false
  at_set_other [] k j y ne = refl
  at_set_other (x ∷ xs) zero zero y ne = absurd (ne refl)
  at_set_other (x ∷ xs) zero (suc j) y ne = refl
  at_set_other (x ∷ xs) (suc k) zero y ne = refl
  at_set_other (x ∷ xs) (suc k) (suc j) y ne = at_set_other xs k j y (λ e. ne (ap suc e))

  at_push_same : (xs : List A) (y : A)
      → at_or (map test (xs ++ y ∷ [])) (length xs) false ≡ test y
  at_push_same [] y = refl
  at_push_same (x ∷ xs) y = at_push_same xs y

  at_push_other : (xs : List A) (j : ℕ) (y : A) → (j ≡ length xs → ⊥)
      → at_or (map test (xs ++ y ∷ [])) j false ≡ at_or (map test xs) j false
  at_push_other [] zero y ne = absurd (ne refl)
  at_push_other [] (suc j) y ne = refl
  at_push_other (x ∷ xs) zero y ne = refl
  at_push_other (x ∷ xs) (suc j) y ne = at_push_other xs j y (λ e. ne (ap suc e))

  -- ---- flags of items

  -- an item in the place of another
  pub held_put : (xs : List A) (place : ℕ) (y : A) (old now : List ℕ) → place < length xs
      → HoldFlags old (map test xs) → IsPut old now place (test y)
      → HoldFlags now (map test (set xs place y))
  held_put xs place y old now l held put k = by (cases_eq k place)
    where
      by : (k ≡ place) ⊎ (k ≡ place → ⊥)
          → is_set now k ≡ at_or (map test (set xs place y)) k false
      by (inl e) =
          ap (is_set now) e ∙ put.here ∙ sym (at_set_same xs place y l)
          ∙ ap (λ i. at_or (map test (set xs place y)) i false) (sym e)
      by (inr ne) = put.others k ne ∙ held k ∙ sym (at_set_other xs place k y ne)

  -- one more item
  pub held_push : (xs : List A) (y : A) (old now : List ℕ)
      → HoldFlags old (map test xs) → IsPut old now (length xs) (test y)
      → HoldFlags now (map test (xs ++ y ∷ []))
  held_push xs y old now held put k = by (cases_eq k (length xs))
    where
      by : (k ≡ length xs) ⊎ (k ≡ length xs → ⊥)
          → is_set now k ≡ at_or (map test (xs ++ y ∷ [])) k false
      by (inl e) =
          ap (is_set now) e ∙ put.here ∙ sym (at_push_same xs y)
          ∙ ap (λ i. at_or (map test (xs ++ y ∷ [])) i false) (sym e)
      by (inr ne) = put.others k ne ∙ held k ∙ sym (at_push_other xs k y ne)

-- ---- marks

-- room is kept
room_kept : (old now : List ℕ) (n : ℕ) → length now ≡ length old → HaveRoom old n → HaveRoom now n
room_kept old now n len have =
    record {
      room = omega (arith, len, have.room);
      small = omega (arith, len, have.small);
    }

pub fit_kept : (old now : Marks) (place n : ℕ) (row : Row) → IsMarked old now place row
    → MarksFit old n → MarksFit now n
fit_kept old now place n row marked fit =
    record {
      pending = room_kept old.pending.items now.pending.items n marked.pending.len fit.pending;
      single = room_kept old.single.items now.single.items n marked.single.len fit.single;
    }

-- room for so many rows is room for fewer
pub fit_fewer : (marks : Marks) (m n : ℕ) → m ≤ n → MarksFit marks n → MarksFit marks m
fit_fewer marks m n le fit =
    record {
      pending = record {
        room = omega (arith, le, fit.pending.room);
        small = fit.pending.small;
      };
      single = record {
        room = omega (arith, le, fit.single.room);
        small = fit.single.small;
      };
    }

-- a row in the place of another
pub marked_put : (rows : List Row) (place : ℕ) (row : Row) (old now : Marks)
    → place < length rows → AreMarked old rows → IsMarked old now place row
    → AreMarked now (set rows place row)
marked_put rows place row old now l are put =
    record {
      pending = held_put is_pending_row rows place row old.pending.items now.pending.items l
          are.pending put.pending;
      single = held_put is_single_row rows place row old.single.items now.single.items l
          are.single put.single;
    }

-- one more row
pub marked_push : (rows : List Row) (row : Row) (old now : Marks)
    → AreMarked old rows → IsMarked old now (length rows) row
    → AreMarked now (rows ++ row ∷ [])
marked_push rows row old now are put =
    record {
      pending = held_push is_pending_row rows row old.pending.items now.pending.items are.pending
          put.pending;
      single = held_push is_single_row rows row old.single.items now.single.items are.single
          put.single;
    }

-- ---- searches by marks

-- a row of which a second attempt may run has one that runs alone
pub copyable_single : (slow : RunningCopy → Bool) (exec : ℕ) (r : Row)
    → is_single_row r ≡ false → is_copyable_row slow exec r ≡ false
copyable_single slow exec r not_single =
    by (is_finish r.finish) (copies_of r) r.denied not_single
  where
    by : (f : Bool) (copies : List RunningCopy) (d : Bool)
        → (not f && (is_single copies && not d)) ≡ false
        → (not f && (is_one_elsewhere exec copies && (not d && list_any slow copies))) ≡ false
    by true copies d e = refl
    by false [] d e = refl
    by false (c ∷ []) true e = and_false (is_one_elsewhere exec (c ∷ []))
      where
        and_false : (b : Bool) → (b && false) ≡ false
        and_false true = refl
        and_false false = refl
    by false (c ∷ []) false e = absurd (search (rules, e))
    by false (c ∷ c' ∷ copies) d e = refl

-- the first row that is to be handed out
pub next_is : (rows : List Row) (words : List ℕ) (from place : ℕ)
    → HoldFlags words (map is_pending_row rows) → NonePendingBelow rows from
    → ((k : ℕ) → from ≤ k → k < place → is_set words k ≡ false)
    → (place < length rows → is_set words place ≡ true)
    → place < length rows → place ≡ position_or_len is_pending_row rows
next_is rows words from place held below none some l =
    first_is is_pending_row rows place (omega (arith, l))
    (λ k d m. before k d m (cases_lt k from))
    (λ d m. sym (at_here is_pending_row rows place d l) ∙ sym (held place)
    ∙ some l)
  where
    before : (k : ℕ) (d : Row) → k < place → (k < from) ⊎ (from ≤ k)
        → is_pending_row (get_or rows k d) ≡ false
    before k d m (inl lt) = below k d lt
    before k d m (inr le) =
        sym (at_here is_pending_row rows k d (omega (arith, m, l))) ∙ sym (held k) ∙ none k le m

-- or there is none
pub next_past : (rows : List Row) (words : List ℕ) (from place : ℕ)
    → HoldFlags words (map is_pending_row rows) → NonePendingBelow rows from
    → ((k : ℕ) → from ≤ k → k < place → is_set words k ≡ false)
    → length rows ≤ place → length rows ≡ position_or_len is_pending_row rows
next_past rows words from place held below none past =
    first_is is_pending_row rows (length rows) (omega arith)
    (λ k d m. before k d m (cases_lt k from)) (λ d m. absurd (omega (arith, m)))
  where
    before : (k : ℕ) (d : Row) → k < length rows → (k < from) ⊎ (from ≤ k)
        → is_pending_row (get_or rows k d) ≡ false
    before k d m (inl lt) = below k d lt
    before k d m (inr le) =
        sym (at_here is_pending_row rows k d m) ∙ sym (held k) ∙ none k le (omega (arith, m, past))

-- no row below a place may be copied
abbrev pub NoneCopyableBelow : (RunningCopy → Bool) → ℕ → List Row → ℕ → Type 0
NoneCopyableBelow slow exec rows place =
    (k : ℕ) (d : Row) → k < place → k < length rows
    → is_copyable_row slow exec (get_or rows k d) ≡ false

-- nor up to the next one of which an attempt runs alone
pub none_copyable : (slow : RunningCopy → Bool) (exec : ℕ) (rows : List Row) (words : List ℕ)
    (from place : ℕ) → HoldFlags words (map is_single_row rows)
    → NoneCopyableBelow slow exec rows from
    → ((k : ℕ) → from ≤ k → k < place → is_set words k ≡ false)
    → NoneCopyableBelow slow exec rows place
none_copyable slow exec rows words from place held below none k d m l = by (cases_lt k from)
  where
    by : (k < from) ⊎ (from ≤ k) → is_copyable_row slow exec (get_or rows k d) ≡ false
    by (inl lt) = below k d lt l
    by (inr le) =
        copyable_single slow exec (get_or rows k d)
        (sym (at_here is_single_row rows k d l) ∙ sym (held k) ∙ none k le m)

-- one more row that may not be copied
pub not_copyable : (slow : RunningCopy → Bool) (exec : ℕ) (rows : List Row) (place : ℕ) (r : Row)
    → place < length rows → is_copyable_row slow exec (get_or rows place r) ≡ false
    → NoneCopyableBelow slow exec rows place → NoneCopyableBelow slow exec rows (place + 1)
not_copyable slow exec rows place r within fails below k d m l = by (cases_eq k place)
  where
    by : (k ≡ place) ⊎ (k ≡ place → ⊥) → is_copyable_row slow exec (get_or rows k d) ≡ false
    by (inl e) =
        ap (λ i. is_copyable_row slow exec (get_or rows i d)) e
        ∙ ap (is_copyable_row slow exec) (get_same rows place d r within) ∙ fails
    by (inr ne) = below k d (omega (arith, m, ne)) l

-- a row that passes is the first one where none below does
pub found_first : {A : Type 0} (q : A → Bool) (xs : List A) (place : ℕ) (d : A)
    → place < length xs
    → ((k : ℕ) (e : A) → k < place → k < length xs → q (get_or xs k e) ≡ false)
    → q (get_or xs place d) ≡ true → Some (get_or xs place d) ≡ find q xs
found_first q [] place d l below passes = absurd (omega (arith, l))
found_first q (x ∷ xs) zero d l below passes = rw passes refl
found_first q (x ∷ xs) (suc place) d l below passes =
    rw (below 0 x (omega arith) (omega arith))
    (found_first q xs place d (omega (arith, l))
    (λ k e m n. below (suc k) e (omega (arith, m)) (omega (arith, n))) passes)

-- none is found where none passes
pub found_never : {A : Type 0} (q : A → Bool) (xs : List A)
    → ((k : ℕ) (e : A) → k < length xs → q (get_or xs k e) ≡ false) → None ≡ find q xs
found_never q [] none = refl
found_never q (x ∷ xs) none =
    rw (none 0 x (omega arith)) (found_never q xs (λ k e l. none (suc k) e (omega (arith, l))))
