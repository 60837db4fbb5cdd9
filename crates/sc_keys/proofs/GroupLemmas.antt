-- Keys in order of first appearance, and the places of keys among them.
use Rattle.std.proofs.Common.{◌≡◌, ◌∙◌, ℕ, suc, ◌+◌, ◌<◌, ◌≤◌, Bool, true, false, cond, List, [], ◌∷◌, ◌++◌, length, map, take, fold, get_or, refl, ap, ap₂, sym, subst, arith, ◌||◌, not, if◌then◌else◌, append_assoc, true≢false}
use Rattle.std.proofs.lemmas.List.{map-append, take_all, take_more}
use Rattle.std.proofs.lemmas.List.Elements.{All-append, All-cons, All-head, All-nil, All-tail}
use Rattle.std.proofs.lemmas.List.Folds.{list_any-append}
use Rattle.std.proofs.lemmas.List.Sums.{fold-append}
use Rattle.std.specs.Cmp.{IsEquivalence}
use Rattle.std.specs.List.{All, AllByRecursion, IsDistinct, list_any}
use Rattle.sc_base.specs.Limits.{count_limit}
use Rattle.sc_keys.specs.Groups.{AreDistinct, AreGroups, distinct, groups, place_in, with_key}

or_false : (a b : Bool) → (a || b) ≡ false → b ≡ false
or_false true b e = absurd (true≢false e)
or_false false b e = e

first_false : (a b : Bool) → (a || b) ≡ false → a ≡ false
first_false true b e = absurd (true≢false e)
first_false false b e = refl

or_true : (a b : Bool) → b ≡ true → (a || b) ≡ true
or_true true b e = refl
or_true false b e = e

-- a longer set of keys
module _ {K : Type 0} (same : K → K → Bool) (self : (k : K) → same k k ≡ true) where
  kept_by : (b any : Bool) (n m : ℕ) → (any ≡ true → n ≡ m) → (b || any) ≡ true
      → cond (not b) (1 + n) 0 ≡ cond (not b) (1 + m) 0
  kept_by true any n m rest e = refl
  kept_by false any n m rest e = ap (λ k. 1 + k) (rest e)

  -- a known key keeps its place when others come behind
  place_kept : (known more : List K) (k : K) → list_any (same k) known ≡ true
      → place_in same (known ++ more) k ≡ place_in same known k
  place_kept [] more k there = absurd (true≢false (sym there))
  place_kept (x ∷ known) more k there =
      kept_by (same k x) (list_any (same k) known) (place_in same (known ++ more) k)
      (place_in same known k) (place_kept known more k) there

  place_new : (known : List K) (k : K) → list_any (same k) known ≡ false
      → place_in same (known ++ k ∷ []) k ≡ place_in same known k
  place_new [] k apart = ap (λ b. cond (not b) 1 0) (self k)
  place_new (x ∷ known) k apart =
      ap (λ n. cond (not (same k x)) (1 + n) 0)
      (place_new known k (or_false (same k x) (list_any (same k) known) apart))

  old_place_by : (b : Bool) (known : List K) (k x : K) → list_any (same x) known ≡ true
      → place_in same (if b then known else known ++ k ∷ []) x ≡ place_in same known x
  old_place_by true known k x there = refl
  old_place_by false known k x there = place_kept known (k ∷ []) x there

  -- a key that is known keeps its place when one more comes
  old_place : (known : List K) (k x : K) → list_any (same x) known ≡ true
      → place_in same (with_key same known k) x ≡ place_in same known x
  old_place known k x there = old_place_by (list_any (same k) known) known k x there

  own_place_by : (b : Bool) (known : List K) (k : K) → list_any (same k) known ≡ b
      → place_in same (if b then known else known ++ k ∷ []) k ≡ place_in same known k
  own_place_by true known k is = refl
  own_place_by false known k is = place_new known k is

  own_place : (known : List K) (k : K)
      → place_in same (with_key same known k) k ≡ place_in same known k
  own_place known k = own_place_by (list_any (same k) known) known k refl

  stays_by : (b : Bool) (known : List K) (k x : K) → list_any (same x) known ≡ true
      → list_any (same x) (if b then known else known ++ k ∷ []) ≡ true
  stays_by true known k x there = there
  stays_by false known k x there =
      list_any-append (same x) known (k ∷ []) ∙ ap (λ b. b || (same x k || false)) there

  stays : (known ks : List K) (x : K) → list_any (same x) known ≡ true
      → list_any (same x) (fold (with_key same) known ks) ≡ true
  stays known [] x there = there
  stays known (k ∷ ks) x there =
      stays (with_key same known k) ks x (stays_by (list_any (same k) known) known k x there)

  comes_by : (b : Bool) (known : List K) (k : K) → list_any (same k) known ≡ b
      → list_any (same k) (if b then known else known ++ k ∷ []) ≡ true
  comes_by true known k is = is
  comes_by false known k is =
      list_any-append (same k) known (k ∷ []) ∙ ap₂ (λ a b. a || (b || false)) is (self k)

  -- each key of the list is among the distinct ones
  pub all_known : (known ks : List K)
      → All (λ k. list_any (same k) (fold (with_key same) known ks) ≡ true) ks
  all_known known [] = All-nil (λ k. list_any (same k) known ≡ true)
  all_known known (k ∷ ks) =
      let more = with_key same known k in
      All-cons (λ x. list_any (same x) (fold (with_key same) more ks) ≡ true) k ks
      (stays (with_key same known k) ks k (comes_by (list_any (same k) known) known k refl))
      (all_known (with_key same known k) ks)

  same_places : (known : List K) (k : K) (ks : List K)
      → All (λ x. list_any (same x) known ≡ true) ks
      → map (place_in same (with_key same known k)) ks ≡ map (place_in same known) ks
  same_places known k [] all = refl
  same_places known k (x ∷ ks) all =
      ap₂ (λ n ns. n ∷ ns)
      (old_place known k x (All-head (λ x. list_any (same x) known ≡ true) x ks all))
      (same_places known k ks (All-tail (λ x. list_any (same x) known ≡ true) x ks all))

  -- one more row
  pub distinct_push : (ks : List K) (k : K)
      → distinct same (ks ++ k ∷ []) ≡ with_key same (distinct same ks) k
  distinct_push ks k = fold-append (with_key same) [] ks (k ∷ [])

  pub groups_push : (ks : List K) (k : K)
      → groups same (ks ++ k ∷ []) ≡ groups same ks ++ place_in same (distinct same ks) k ∷ []
  groups_push ks k =
      let known = distinct same ks in
      ap (λ ds. map (place_in same ds) (ks ++ k ∷ [])) (distinct_push ks k)
      ∙ map-append (place_in same (with_key same known k)) ks (k ∷ [])
      ∙ ap₂ (λ ns n. ns ++ n ∷ []) (same_places known k ks (all_known [] ks)) (own_place known k)

  pub groups_more : (ks : List K) (i g : ℕ) (k : K) (known after : List K) (out more : List ℕ)
      → i < length ks → k ≡ get_or ks i k → known ≡ distinct same (take i ks)
      → out ≡ groups same (take i ks) → after ≡ with_key same known k → g ≡ place_in same known k
      → more ≡ out ++ g ∷ []
      → (after ≡ distinct same (take (i + 1) ks)) × (more ≡ groups same (take (i + 1) ks))
  groups_more ks i g k known after out more within at is are next here pushed =
      let step : take (i + 1) ks ≡ take i ks ++ k ∷ [] =
      take_more ks i k within ∙ ap (λ x. take i ks ++ x ∷ []) (sym at) in (
        next ∙ ap (λ ds. with_key same ds k) is ∙ sym (distinct_push (take i ks) k)
            ∙ ap (distinct same) (sym step),
        pushed ∙ ap₂ (λ ns n. ns ++ n ∷ []) are (here ∙ ap (λ ds. place_in same ds k) is)
            ∙ sym (groups_push (take i ks) k) ∙ ap (groups same) (sym step),
      )

  below_by : (b any : Bool) (n m : ℕ) → (any ≡ true → n < m) → (b || any) ≡ true
      → cond (not b) (1 + n) 0 < suc m
  below_by true any n m rest e = omega arith
  below_by false any n m rest e = let less = rest e in omega (arith, less)

  pub place_below : (known : List K) (k : K) → list_any (same k) known ≡ true
      → place_in same known k < length known
  place_below [] k there = absurd (true≢false (sym there))
  place_below (x ∷ known) k there =
      below_by (same k x) (list_any (same k) known) (place_in same known k) (length known)
      (place_below known k) there

  places_below : (known ks : List K) → All (λ k. list_any (same k) known ≡ true) ks
      → All (λ n. n < length known) (map (place_in same known) ks)
  places_below known [] all = All-nil (λ n. n < length known)
  places_below known (k ∷ ks) all =
      All-cons (λ n. n < length known) (place_in same known k) (map (place_in same known) ks)
      (place_below known k (All-head (λ k. list_any (same k) known ≡ true) k ks all))
      (places_below known ks (All-tail (λ k. list_any (same k) known ≡ true) k ks all))

  -- what the groups are once each row has one
  pub are_groups : (ks : List K) (i : ℕ) (known : List K) (out : List ℕ) (count : ℕ)
      → length ks ≤ i → known ≡ distinct same (take i ks) → out ≡ groups same (take i ks)
      → count ≡ length known → length ks ≤ count_limit → AreGroups same ks out count
  are_groups ks i known out count past is are counted few =
      let whole = take_all i ks past in
      let size : count ≡ length (distinct same ks) =
      counted ∙ ap length is ∙ ap (λ xs. length (distinct same xs)) whole in
      let all : out ≡ groups same ks = are ∙ ap (groups same) whole in
      record {
        are = all;
        counted = size;
        below = subst (λ n. All (λ g. g < n) out) (sym size)
            (subst (All (λ g. g < length (distinct same ks))) (sym all)
            (places_below (distinct same ks) ks (all_known [] ks)));
        within = few;
      }

-- a set of keys grows by one at most
pub grows_by : (b : Bool) (m n i : ℕ) → m ≡ n + (if b then 1 else 0) → n ≤ i → m ≤ i + 1
grows_by true m n i is few = omega arith
grows_by false m n i is few = omega arith

module _ {K : Type 0} (same : K → K → Bool) (laws : IsEquivalence same) where
  apart_behind : (ks : List K) (x k : K) → AllByRecursion (λ y. same x y ≡ false) ks
      → same x k ≡ false → AllByRecursion (λ y. same x y ≡ false) (ks ++ k ∷ [])
  apart_behind [] x k all apart = (apart, tt)
  apart_behind (y ∷ ks) x k all apart = (all.0, apart_behind ks x k all.1 apart)

  distinct_behind : (ks : List K) (k : K) → IsDistinct same ks → list_any (same k) ks ≡ false
      → IsDistinct same (ks ++ k ∷ [])
  unfolding IsDistinct
  distinct_behind [] k apart new = (tt, tt)
  distinct_behind (x ∷ ks) k apart new = (
    apart_behind ks x k apart.0
        (laws.symm x k ∙ first_false (same k x) (list_any (same k) ks) new),
    distinct_behind ks k apart.1 (or_false (same k x) (list_any (same k) ks) new),
  )

  with_key_apart_by : (b : Bool) (ks : List K) (k : K) → list_any (same k) ks ≡ b
      → IsDistinct same ks → IsDistinct same (if b then ks else ks ++ k ∷ [])
  with_key_apart_by true ks k is apart = apart
  with_key_apart_by false ks k is apart = distinct_behind ks k apart is

  fold_apart : (known ks : List K) → IsDistinct same known
      → IsDistinct same (fold (with_key same) known ks)
  fold_apart known [] apart = apart
  fold_apart known (k ∷ ks) apart =
      fold_apart (with_key same known k) ks
      (with_key_apart_by (list_any (same k) known) known k refl apart)

  own_by : (P : K → Type 0) (b : Bool) (known : List K) (k : K) → All P known → P k
      → All P (if b then known else known ++ k ∷ [])
  own_by P true known k all own = all
  own_by P false known k all own = All-append P known (k ∷ []) all (All-cons P k [] own (All-nil P))

  fold_own : (P : K → Type 0) (known ks : List K) → All P known → All P ks
      → All P (fold (with_key same) known ks)
  fold_own P known [] all own = all
  fold_own P known (k ∷ ks) all own =
      fold_own P (with_key same known k) ks
      (own_by P (list_any (same k) known) known k all (All-head P k ks own))
      (All-tail P k ks own)

  among : (before ks : List K) → All (λ k. list_any (same k) (before ++ ks) ≡ true) ks
  among before [] = All-nil (λ k. list_any (same k) (before ++ []) ≡ true)
  among before (k ∷ ks) =
      All-cons (λ x. list_any (same x) (before ++ k ∷ ks) ≡ true) k ks
      (list_any-append (same k) before (k ∷ ks)
      ∙ or_true (list_any (same k) before) (same k k || list_any (same k) ks)
      (ap (λ b. b || list_any (same k) ks) (laws.refl k)))
      (subst (λ xs. All (λ x. list_any (same x) xs ≡ true) ks)
      (append_assoc before (k ∷ []) ks) (among (before ++ k ∷ []) ks))

  none_distinct : IsDistinct same []
  unfolding IsDistinct
  none_distinct = tt

  pub are_distinct : (ks : List K) → AreDistinct same ks (distinct same ks)
  are_distinct ks = record {
    apart = fold_apart [] ks none_distinct;
    all = all_known same laws.refl [] ks;
    own = fold_own (λ k. list_any (same k) ks ≡ true) [] ks
        (All-nil (λ k. list_any (same k) ks ≡ true)) (among [] ks);
  }
