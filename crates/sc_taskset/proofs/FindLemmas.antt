-- What is found in lists, and lists in order.
use Rattle.std.proofs.Common.{◌≡◌, ◌∙◌, ℕ, ◌+◌, ◌<◌, ◌≤◌, ◌==◌, Bool, true, false, not, cond, List, [], ◌∷◌, length, map, remove, Option, Some, None, nat_lt, suc, refl, ap, sym, arith, rules}
use Rattle.std.specs.List.{All, AllPairs, filter, find, position, position_or_len}
use Rattle.std.proofs.lemmas.List.Elements.{All-head, All-tail}
use Rattle.std.proofs.lemmas.List.Folds.{find_at}
use Rattle.std.proofs.lemmas.Option.{slice_get_past}
use Rattle.std.proofs.lemmas.Bool.Decides.{nat_tests}
use Rattle.sc_taskset.specs.TaskSetData.{TaskData}
use Rattle.sc_taskset.specs.Lookups.{is_there_and, task_at}
use Rattle.sc_taskset.specs.Sound.{AreRising}

-- the first of a list against the others
pub pairs_head :
    {A : Type 0} (R : A → A → Type 0) (x : A) (xs : List A) → AllPairs R (x ∷ xs) → All (R x) xs
pairs_head R x xs pairs k d l = pairs 0 (suc k) d (omega arith) (omega (arith, l))

-- the others
pub pairs_tail :
    {A : Type 0} (R : A → A → Type 0) (x : A) (xs : List A) → AllPairs R (x ∷ xs) → AllPairs R xs
pairs_tail R x xs pairs i j d lt l = pairs (suc i) (suc j) d (omega (arith, lt)) (omega (arith, l))

-- what is found is of the list
pub found_is :
    {A : Type 0} (P : A → Type 0) (q : A → Bool) (xs : List A) (x : A)
    → All P xs → find q xs ≡ Some x → P x
found_is P q [] x all found = absurd (search (rules, found))
found_is {A = A} P q (y ∷ ys) x all found =
    by (q y) found (λ f. found_is P q ys x (All-tail P y ys all) f)
  where
    by : (b : Bool) → cond b (Some y) (find q ys) ≡ Some x
        → (find q ys ≡ Some x → P x) → P x
    by true f rest =
        let same : y ≡ x = search (rules, f) in
        rw (← same) (All-head P y ys all)
    by false f rest = rest f

-- what is found passes
pub found_passes :
    {A : Type 0} (q : A → Bool) (xs : List A) (x : A) → find q xs ≡ Some x → q x ≡ true
found_passes q [] x found = absurd (search (rules, found))
found_passes q (y ∷ ys) x found = by (q y) refl found (λ f. found_passes q ys x f)
  where
    by : (b : Bool) → q y ≡ b → cond b (Some y) (find q ys) ≡ Some x
        → (find q ys ≡ Some x → q x ≡ true) → q x ≡ true
    by true is f rest =
        let same : y ≡ x = search (rules, f) in
        rw (← same) is
    by false is f rest = rest f

-- where nothing that passes has a place, nothing is found
pub none_placed :
    {A : Type 0} (p : A → Bool) (xs : List A) → None ≡ position p xs → find p xs ≡ None
none_placed p xs is = by (nat_lt at (length xs)) refl is
  where
    at : ℕ
    at = position_or_len p xs

    by : (b : Bool) → nat_lt at (length xs) ≡ b → None ≡ cond b (Some at) None
        → find p xs ≡ None
    by true lt e = absurd (cc)
    by false lt e =
        let past : length xs ≤ at = grind (arith, nat_tests, lt) in
        find_at p xs ∙ slice_get_past xs at past

-- a list in which one that passes stands alone: of two that stand to each other so, one passes
module _ {A : Type 0} (R : A → A → Type 0) (p : A → Bool)
    (clash : (x y : A) → R x y → p x ≡ true → p y ≡ false) where
  -- behind one that passes none does
  none_behind : (x : A) (xs : List A) → p x ≡ true → All (R x) xs
      → filter (λ y. not (p y)) xs ≡ xs
  none_behind x [] e all = refl
  none_behind x (y ∷ ys) e all =
      rw (clash x y (All-head (R x) y ys all) e)
      (ap (λ zs. y ∷ zs) (none_behind x ys e (All-tail (R x) y ys all)))

  -- so without it those are left that don't pass
  pub removed_alone : (xs : List A) → AllPairs R xs → position_or_len p xs < length xs
      → remove xs (position_or_len p xs) ≡ filter (λ y. not (p y)) xs
  removed_alone [] pairs lt = absurd (omega (arith, lt))
  removed_alone (x ∷ xs) pairs lt = by (p x) refl lt (removed_alone xs (pairs_tail R x xs pairs))
    where
      place : ℕ
      place = position_or_len p xs

      by : (b : Bool) → p x ≡ b → cond (not b) (1 + place) 0 < suc (length xs)
          → (place < length xs → remove xs place ≡ filter (λ y. not (p y)) xs)
          → remove (x ∷ xs) (cond (not (p x)) (1 + place) 0)
          ≡ cond (not (p x)) (x ∷ filter (λ y. not (p y)) xs) (filter (λ y. not (p y)) xs)
      by true e l rest = rw e (sym (none_behind x xs e (pairs_head R x xs pairs)))
      by false e l rest =
          let one : 1 + place ≡ suc place = omega arith in
          rw (e, one) (ap (λ zs. x ∷ zs) (rest (omega (arith, l))))

-- where no task passes, no partition's does
pub none_found :
    (test : TaskData → Bool) (tasks : List TaskData) → find test tasks ≡ None
    → (partition : ℕ) → is_there_and test (task_at partition tasks) ≡ false
none_found test [] none partition = refl
none_found test (t ∷ tasks) none partition =
    by (test t) refl none (λ n. none_found test tasks n partition)
  where
    rest : Option TaskData
    rest = task_at partition tasks

    by : (b : Bool) → test t ≡ b → cond b (Some t) (find test tasks) ≡ None
        → (find test tasks ≡ None → is_there_and test (task_at partition tasks) ≡ false)
        → is_there_and test (cond (t.partition == partition) (Some t) (task_at partition tasks))
        ≡ false
    by true is n more = absurd (search (rules, n))
    by false is n more = or (t.partition == partition)
      where
        or : (a : Bool) → is_there_and test (cond a (Some t) (task_at partition tasks)) ≡ false
        or true = is
        or false = more n

-- no task is of a partition below all of theirs
below_all :
    (tasks : List TaskData) (low partition : ℕ) → All (λ q. low < q) (map (λ t. t.partition) tasks)
    → partition ≤ low → task_at partition tasks ≡ None
below_all [] low partition all le = refl
below_all (t ∷ tasks) low partition all le =
    let h : low < t.partition =
    All-head (λ q. low < q) t.partition (map (λ u. u.partition) tasks) all in
    let other : (t.partition == partition) ≡ false = grind (arith, nat_tests, h, le) in
    rw other
    (below_all tasks low partition
    (All-tail (λ q. low < q) t.partition (map (λ u. u.partition) tasks) all) le)

-- what is found is above what all are above
found_above :
    (test : TaskData → Bool) (tasks : List TaskData) (low : ℕ) (t : TaskData)
    → All (λ q. low < q) (map (λ u. u.partition) tasks) → find test tasks ≡ Some t
    → low < t.partition
found_above test [] low t all found = absurd (search (rules, found))
found_above test (u ∷ us) low t all found =
    by (test u) found
    (λ f. found_above test us low t
    (All-tail (λ q. low < q) u.partition (map (λ v. v.partition) us) all) f)
  where
    by : (b : Bool) → cond b (Some u) (find test us) ≡ Some t
        → (find test us ≡ Some t → low < t.partition) → low < t.partition
    by true f rest =
        let same : u ≡ t = search (rules, f) in
        rw (← same) (All-head (λ q. low < q) u.partition (map (λ v. v.partition) us) all)
    by false f rest = rest f

-- the first task that passes is that of its partition, and none below passes
pub first_found :
    (test : TaskData → Bool) (tasks : List TaskData) (t : TaskData)
    → AreRising (map (λ u. u.partition) tasks) → find test tasks ≡ Some t
    → (task_at t.partition tasks ≡ Some t)
    × ((other : ℕ) → other < t.partition → is_there_and test (task_at other tasks) ≡ false)
first_found test [] t rising found = absurd (search (rules, found))
first_found test (u ∷ us) t rising found =
    by (test u) refl found
    (λ f. first_found test us t
    (pairs_tail (λ p q. p < q) u.partition (map (λ v. v.partition) us) rising) f)
  where
    above : All (λ q. u.partition < q) (map (λ v. v.partition) us)
    above = pairs_head (λ p q. p < q) u.partition (map (λ v. v.partition) us) rising

    here : (u.partition == u.partition) ≡ true
    here = grind (arith, nat_tests)

    by : (b : Bool) → test u ≡ b → cond b (Some u) (find test us) ≡ Some t
        → (find test us ≡ Some t
        → (task_at t.partition us ≡ Some t)
        × ((other : ℕ) → other < t.partition → is_there_and test (task_at other us) ≡ false))
        → (cond (u.partition == t.partition) (Some u) (task_at t.partition us) ≡ Some t)
        × ((other : ℕ) → other < t.partition
        → is_there_and test (cond (u.partition == other) (Some u) (task_at other us)) ≡ false)
    by true is f more =
        let same : u ≡ t = search (rules, f) in
        rw (← same) (
          rw here refl,
          λ other lt.
              (let apart : (u.partition == other) ≡ false = grind (arith, nat_tests, lt) in
              rw (apart, below_all us u.partition other above (omega (arith, lt))) refl),
        )
    by false is f more =
        let lt : u.partition < t.partition = found_above test us u.partition t above f in
        let apart : (u.partition == t.partition) ≡ false = grind (arith, nat_tests, lt) in
        (rw apart (more f).0, λ other l. or other (u.partition == other) ((more f).1 other l))
      where
        or : (other : ℕ) (a : Bool) → is_there_and test (task_at other us) ≡ false
            → is_there_and test (cond a (Some u) (task_at other us)) ≡ false
        or other true rest = is
        or other false rest = rest
