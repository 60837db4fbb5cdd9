-- Places of what is flagged.
use Rattle.std.proofs.Common.{◌≡◌, ℕ, ◌+◌, ◌<◌, ◌≤◌, ◌==◌, ◌⊎◌, inl, inr, zero, suc, Bool, true, false, cond, ◌||◌, List, [], ◌∷◌, ◌++◌, length, get_or, set, map, refl, ap, sym, ◌∙◌, arith, true≢false, length-set, length-append}
use Rattle.std.proofs.lemmas.Bool.{cases_eq}
use Rattle.std.proofs.lemmas.Bool.Decides.{nat_tests}
use Rattle.std.proofs.lemmas.List.Edits.{length-remove}
use Rattle.std.proofs.lemmas.List.Folds.{list_any-append}
use Rattle.std.proofs.lemmas.List.Sums.{sum_by-cons}
use Rattle.std.specs.List.{count_by, remove}
use Rattle.sc_base.specs.Lists.{at_or}
use Rattle.sc_taskset.specs.Lists.{IsListOf, IsWithout, has_place}

-- ---- one place less

-- what was taken out, and what is left
has_remove : (xs : List ℕ) (i p : ℕ) → i < length xs
    → has_place xs p ≡ ((get_or xs i 0 == p) || has_place (remove xs i) p)
has_remove [] i p l = absurd (omega (arith, l))
has_remove (x ∷ xs) zero p l = refl
has_remove (x ∷ xs) (suc i) p l =
    ap (λ b. (x == p) || b) (has_remove xs i p (omega (arith, l)))
    ∙ swapped (x == p) (get_or xs i 0 == p) (has_place (remove xs i) p)
  where
    swapped : (a b c : Bool) → (a || (b || c)) ≡ (b || (a || c))
    swapped true true c = refl
    swapped true false c = refl
    swapped false b c = refl

pub without_at : (xs : List ℕ) (at place : ℕ) → at < length xs → get_or xs at 0 ≡ place
    → IsWithout xs (remove xs at) place
without_at xs at place l here =
    record {
      others = λ p ne has.
          other (get_or xs at 0 == p) (has_place (remove xs at) p) refl
          (λ e. ne (grind (arith, nat_tests, e, here))) (sym (has_remove xs at p l) ∙ has);
      none_new = λ p has.
          has_remove xs at p l
          ∙ ap (λ b. (get_or xs at 0 == p) || b) has ∙ or_true (get_or xs at 0 == p);
      no_more = omega (arith, length-remove xs at l);
      one_less = λ has. omega (arith, length-remove xs at l);
    }
  where
    other : (a b : Bool) → a ≡ a → (a ≡ true → ⊥) → (a || b) ≡ true → b ≡ true
    other true b r not either = absurd (not refl)
    other false b r not either = either

    or_true : (b : Bool) → (b || true) ≡ true
    or_true true = refl
    or_true false = refl

-- nothing is taken out where the place isn't among them
pub without_none : (xs : List ℕ) (place : ℕ)
    → ((k : ℕ) → k < length xs → get_or xs k 0 ≡ place → ⊥) → IsWithout xs xs place
without_none xs place none =
    record {
      others = λ p ne has. has;
      none_new = λ p has. has;
      no_more = omega arith;
      one_less = λ has. absurd (true≢false (sym has ∙ not_there xs none));
    }
  where
    not_there : (ys : List ℕ) → ((k : ℕ) → k < length ys → get_or ys k 0 ≡ place → ⊥)
        → has_place ys place ≡ false
    not_there [] n = refl
    not_there (y ∷ ys) n =
        first (y == place) refl (not_there ys (λ k l e. n (suc k) (omega (arith, l)) e))
      where
        first : (b : Bool) → (y == place) ≡ b → has_place ys place ≡ false
            → (b || has_place ys place) ≡ false
        first true e rest = absurd (n 0 (omega arith) (grind (arith, nat_tests, e)))
        first false e rest = rest

-- twice without a place
pub without_twice : (old mid now : List ℕ) (place : ℕ) → IsWithout old mid place
    → IsWithout mid now place → IsWithout old now place
without_twice old mid now place first second =
    record {
      others = λ p ne has. second.others p ne (first.others p ne has);
      none_new = λ p has. first.none_new p (second.none_new p has);
      no_more = let a = first.no_more in let b = second.no_more in omega (arith, a, b);
      one_less = λ has. (let a = first.one_less has in
          let b = second.no_more in omega (arith, a, b));
    }

-- ---- flags

-- a flag put as it was
pub flag_same : (flags : List Bool) (i : ℕ) (b : Bool) → i < length flags
    → at_or flags i false ≡ b → set flags i b ≡ flags
flag_same [] i b l is = refl
flag_same (f ∷ flags) zero b l is = ap (λ g. g ∷ flags) (sym is)
flag_same (f ∷ flags) (suc i) b l is =
    ap (λ fs. f ∷ fs) (flag_same flags i b (omega (arith, l)) is)

flag_here : (flags : List Bool) (i : ℕ) (b : Bool) → i < length flags
    → at_or (set flags i b) i false ≡ b
flag_here [] i b l = absurd (omega (arith, l))
flag_here (f ∷ flags) zero b l = refl
flag_here (f ∷ flags) (suc i) b l = flag_here flags i b (omega (arith, l))

flag_other : (flags : List Bool) (i j : ℕ) (b : Bool) → (j ≡ i → ⊥)
    → at_or (set flags i b) j false ≡ at_or flags j false
flag_other [] i j b ne = refl
flag_other (f ∷ flags) zero zero b ne = absurd (ne refl)
flag_other (f ∷ flags) zero (suc j) b ne = refl
flag_other (f ∷ flags) (suc i) zero b ne = refl
flag_other (f ∷ flags) (suc i) (suc j) b ne = flag_other flags i j b (λ e. ne (ap suc e))

-- no flag is past the end
flag_within : (flags : List Bool) (i : ℕ) → at_or flags i false ≡ true → i < length flags
flag_within [] i is = absurd (true≢false (sym is))
flag_within (f ∷ flags) zero is = omega arith
flag_within (f ∷ flags) (suc i) is = omega (arith, flag_within flags i is)

flag_count : (f : Bool) (flags : List Bool)
    → count_by (λ b. b) (f ∷ flags) ≡ cond f 1 0 + count_by (λ b. b) flags
flag_count f flags = sum_by-cons (λ b. cond b 1 0) f flags

-- a flag that is put counts in place of the one that was there
counted : (flags : List Bool) (i : ℕ) (b : Bool) → i < length flags
    → count_by (λ f. f) (set flags i b) + cond (at_or flags i false) 1 0
    ≡ count_by (λ f. f) flags + cond b 1 0
counted [] i b l = absurd (omega (arith, l))
counted (f ∷ flags) zero b l = omega (arith, flag_count f flags, flag_count b flags)
counted (f ∷ flags) (suc i) b l =
    omega (
      arith,
      flag_count f flags,
      flag_count f (set flags i b),
      counted flags i b (omega (arith, l)),
    )

pub flags_counted : {A : Type 0} (test : A → Bool) (xs : List A)
    → count_by (λ b. b) (map test xs) ≡ count_by test xs
flags_counted test [] = refl
flags_counted test (x ∷ xs) =
    omega (
      arith,
      flag_count (test x) (map test xs),
      sum_by-cons (λ y. cond (test y) 1 0) x xs,
      flags_counted test xs,
    )

-- ---- the places of what is flagged

module _ (places : List ℕ) (flags : List Bool) (place : ℕ) (listed : IsListOf places flags) where
  -- a flag is cleared, and its place is gone
  pub list_less : (now : List ℕ) → at_or flags place false ≡ true → IsWithout places now place
      → IsListOf now (set flags place false)
  list_less now is without =
      let l = flag_within flags place is in
      let less = without.one_less (listed.all place is) in
      let few = listed.few in
      let count = rw is at (counted flags place false l) in
      record {
        all = λ k on. all k on (cases_eq k place);
        few = omega (arith, less, few, count);
        within = λ k has. rw (length-set flags place false)
            (listed.within k (without.none_new k has));
      }
    where
      all : (k : ℕ) → at_or (set flags place false) k false ≡ true
          → (k ≡ place) ⊎ (k ≡ place → ⊥) → has_place now k ≡ true
      all k on (inl e) =
          absurd (true≢false (sym on ∙ ap (λ i. at_or (set flags place false) i false) e
          ∙ flag_here flags place false (flag_within flags place is)))
      all k on (inr ne) =
          without.others k ne (listed.all k (sym (flag_other flags place k false ne) ∙ on))

  -- a place without a flag is gone
  pub list_without : (now : List ℕ) → at_or flags place false ≡ false
      → IsWithout places now place → IsListOf now flags
  list_without now off without =
      let few = listed.few in
      let less = without.no_more in
      record {
        all = λ k on. without.others k
            (λ e. true≢false (sym on ∙ ap (λ i. at_or flags i false) e ∙ off)) (listed.all k on);
        few = omega (arith, few, less);
        within = λ k has. listed.within k (without.none_new k has);
      }

  -- a flag is set, and its place is there
  pub list_more : place < length flags → at_or flags place false ≡ false
      → IsListOf (places ++ place ∷ []) (set flags place true)
  list_more l off =
      let few = listed.few in
      let count = rw off at (counted flags place true l) in
      record {
        all = λ k on. all k on (cases_eq k place);
        few = omega (arith, few, count, length-append places (place ∷ []));
        within = λ k has. rw (length-set flags place true) (within k (cases_eq k place) has);
      }
    where
      split : (k : ℕ) → has_place (places ++ place ∷ []) k
          ≡ (has_place places k || ((place == k) || false))
      split k = list_any-append (λ p. p == k) places (place ∷ [])

      or_true : (a b : Bool) → a ≡ true → (a || b) ≡ true
      or_true true b e = refl
      or_true false b e = absurd (true≢false (sym e))

      last_true : (a b : Bool) → b ≡ true → (a || (b || false)) ≡ true
      last_true true b e = refl
      last_true false true e = refl
      last_true false false e = e

      all : (k : ℕ) → at_or (set flags place true) k false ≡ true
          → (k ≡ place) ⊎ (k ≡ place → ⊥) → has_place (places ++ place ∷ []) k ≡ true
      all k on (inl e) =
          split k ∙ last_true (has_place places k) (place == k) (grind (arith, nat_tests, e))
      all k on (inr ne) =
          split k ∙ or_true (has_place places k) ((place == k) || false)
          (listed.all k (sym (flag_other flags place k true ne) ∙ on))

      within : (k : ℕ) → (k ≡ place) ⊎ (k ≡ place → ⊥)
          → has_place (places ++ place ∷ []) k ≡ true → k < length flags
      within k (inl e) has = omega (arith, e, l)
      within k (inr ne) has =
          listed.within k (first (has_place places k) (place == k)
          (λ e. ne (grind (arith, nat_tests, e))) (sym (split k) ∙ has))
        where
          first : (a b : Bool) → (b ≡ true → ⊥) → (a || (b || false)) ≡ true → a ≡ true
          first true b not e = refl
          first false true not e = absurd (not refl)
          first false false not e = e

-- ---- items seen as lists

module _ {A : Type 0} (items : A → List ℕ) where
  pub items_here : (xs : List A) (i : ℕ) (y : A) → i < length xs
      → at_or (map items (set xs i y)) i [] ≡ items y
  items_here [] i y l = absurd (omega (arith, l))
  items_here (x ∷ xs) zero y l = refl
  items_here (x ∷ xs) (suc i) y l = items_here xs i y (omega (arith, l))

  pub items_other : (xs : List A) (i j : ℕ) (y : A) → (j ≡ i → ⊥)
      → at_or (map items (set xs i y)) j [] ≡ at_or (map items xs) j []
  items_other [] i j y ne = refl
  items_other (x ∷ xs) zero zero y ne = absurd (ne refl)
  items_other (x ∷ xs) zero (suc j) y ne = refl
  items_other (x ∷ xs) (suc i) zero y ne = refl
  items_other (x ∷ xs) (suc i) (suc j) y ne = items_other xs i j y (λ e. ne (ap suc e))

  pub items_at : (xs : List A) (i : ℕ) (d : A) → i < length xs
      → at_or (map items xs) i [] ≡ items (get_or xs i d)
  items_at [] i d l = absurd (omega (arith, l))
  items_at (x ∷ xs) zero d l = refl
  items_at (x ∷ xs) (suc i) d l = items_at xs i d (omega (arith, l))

  pub items_past : (xs : List A) (i : ℕ) → length xs ≤ i → at_or (map items xs) i [] ≡ []
  items_past [] i le = refl
  items_past (x ∷ xs) zero le = absurd (omega (arith, le))
  items_past (x ∷ xs) (suc i) le = items_past xs i (omega (arith, le))

  -- an item in the place of another that is seen alike
  pub items_kept : (xs : List A) (i j : ℕ) (y d : A) → i < length xs
      → items y ≡ items (get_or xs i d)
      → at_or (map items (set xs i y)) j [] ≡ at_or (map items xs) j []
  items_kept xs i j y d l same = by (cases_eq j i)
    where
      by : (j ≡ i) ⊎ (j ≡ i → ⊥)
          → at_or (map items (set xs i y)) j [] ≡ at_or (map items xs) j []
      by (inl e) =
          ap (λ k. at_or (map items (set xs i y)) k []) e ∙ items_here xs i y l ∙ same
          ∙ sym (items_at xs i d l) ∙ ap (λ k. at_or (map items xs) k []) (sym e)
      by (inr ne) = items_other xs i j y ne
