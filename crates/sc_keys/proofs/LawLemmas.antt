-- What stands at the places of a group, a bucket or a number.
use Rattle.std.proofs.Common.{◌≡◌, ◌∙◌, ℕ, zero, suc, ◌+◌, ◌<◌, Bool, true, false, cond, List, [], ◌∷◌, Option, Some, length, map, refl, ap, ap₂, sym, subst, arith, ◌==◌, ◌||◌, if◌then◌else◌, filter, filter_map, ne_eqb, not, slice_get, true≢false}
use Rattle.std.proofs.lemmas.List.Elements.{All-append, All-cons, All-head, All-nil, All-tail}
use Rattle.std.specs.Cmp.{IsEquivalence}
use Rattle.std.specs.List.{All, AllByRecursion, IsDistinct, concat, cons_option, list_any}
use Rattle.sc_base.specs.Lists.{numbers_from}
use Rattle.sc_keys.specs.Groups.{distinct, groups, place_in}
use Rattle.sc_keys.specs.Laws.{IsSplit}
use Rattle.sc_keys.specs.Splits.{places_from, places_of}
use Rattle.sc_keys.proofs.GroupLemmas.{are_distinct}
use Rattle.sc_keys.proofs.SplitLemmas.{length-numbers}
use Rattle.sc_value.specs.Picked.{picked}

-- the rows of a bucket
place_by : {X : Type 0} (b : Bool) (get : ℕ → Option X) (i : ℕ) (x : X) (ps : List ℕ)
    (rest : List X) → get i ≡ Some x → filter_map get ps ≡ rest
    → filter_map get (if b then i ∷ ps else ps) ≡ cond b (x ∷ rest) rest
place_by true get i x ps rest at is = ap₂ cons_option at is
place_by false get i x ps rest at is = is

at_places : {X : Type 0} (h : X → ℕ) (j i : ℕ) (get : ℕ → Option X) (xs : List X)
    → ((k : ℕ) → get (i + k) ≡ slice_get xs k)
    → filter_map get (places_from i j (map h xs)) ≡ filter (λ x. h x == j) xs
at_places h j i get [] at = refl
at_places h j i get (x ∷ xs) at =
    let here : i ≡ i + 0 = omega arith in
    place_by (h x == j) get i x (places_from (suc i) j (map h xs)) (filter (λ x. h x == j) xs)
    (ap get here ∙ at 0)
    (at_places h j (suc i) get xs
    (λ k. let e : suc i + k ≡ i + suc k = omega arith in ap get e ∙ at (suc k)))

pub rows_of_bucket : {X : Type 0} (h : X → ℕ) (rows : List X) (j : ℕ)
    → picked rows (places_of j (map h rows)) ≡ filter (λ r. h r == j) rows
rows_of_bucket h rows j =
    at_places h j 0 (slice_get rows) rows
    (λ k. let e : 0 + k ≡ k = omega arith in ap (slice_get rows) e)

map-twice : {X Y Z : Type 0} (f : X → Y) (g : Y → Z) (xs : List X)
    → map g (map f xs) ≡ map (λ x. g (f x)) xs
map-twice f g [] = refl
map-twice f g (x ∷ xs) = ap (λ r. g (f x) ∷ r) (map-twice f g xs)

-- the rows of a group
zero_by : (b : Bool) (n : ℕ) → (cond (not b) (1 + n) 0 == 0) ≡ b
zero_by true n = refl
zero_by false n = ne_eqb (1 + n) 0 (λ e. absurd (omega arith))

suc_same : (n j : ℕ) → (1 + n == suc j) ≡ (n == j)
suc_same n j = grind arith

each_at : {X : Type 0} (P : X → Type 0) (xs : List X) (j : ℕ) (x : X) → AllByRecursion P xs
    → slice_get xs j ≡ Some x → P x
each_at P [] j x all at = absurd (cc)
each_at P (y ∷ xs) zero x all at = let e : y ≡ x = cc in subst P e all.0
each_at P (y ∷ xs) (suc j) x all at = each_at P xs j x all.1 at

module _ {K : Type 0} (same : K → K → Bool) (laws : IsEquivalence same) where
  later_by : (b : Bool) (d own k : K) (ds : List K) (j : ℕ) → same k d ≡ b → same d own ≡ false
      → (b || list_any (same k) ds) ≡ true
      → (list_any (same k) ds ≡ true → (place_in same ds k == j) ≡ same own k)
      → (cond (not b) (1 + place_in same ds k) 0 == suc j) ≡ same own k
  later_by true d own k ds j is apart there rest =
      ne_eqb 0 (suc j) (λ e. absurd (omega arith))
      ∙ sym (laws.symm own k ∙ laws.congr k d own is ∙ apart)
  later_by false d own k ds j is apart there rest =
      suc_same (place_in same ds k) j ∙ rest there

  -- a key has the place of the distinct key that is the same
  place_is : (ds : List K) → IsDistinct same ds → (j : ℕ) (own k : K) → slice_get ds j ≡ Some own
      → list_any (same k) ds ≡ true → (place_in same ds k == j) ≡ same own k
  unfolding IsDistinct
  place_is [] apart j own k at there = absurd (true≢false (sym there))
  place_is (d ∷ ds) apart zero own k at there =
      let e : d ≡ own = cc in
      zero_by (same k d) (place_in same ds k) ∙ laws.symm k d ∙ ap (λ x. same x k) e
  place_is (d ∷ ds) apart (suc j) own k at there =
      later_by (same k d) d own k ds j refl
      (each_at (λ y. same d y ≡ false) ds j own apart.0 at) there
      (λ among. place_is ds apart.1 j own k at among)

  same_rows : {X : Type 0} (key : X → K) (ds : List K) → IsDistinct same ds → (j : ℕ) (own : K)
      → slice_get ds j ≡ Some own → (rows : List X)
      → All (λ k. list_any (same k) ds ≡ true) (map key rows)
      → filter (λ r. place_in same ds (key r) == j) rows ≡ filter (λ r. same own (key r)) rows
  same_rows key ds apart j own at [] all = refl
  same_rows key ds apart j own at (r ∷ rows) all =
      let known = All-head (λ k. list_any (same k) ds ≡ true) (key r) (map key rows) all in
      let more = All-tail (λ k. list_any (same k) ds ≡ true) (key r) (map key rows) all in
      ap₂ (λ b rs. cond b (r ∷ rs) rs) (place_is ds apart j own (key r) at known)
      (same_rows key ds apart j own at rows more)

  pub rows_of_group : {X : Type 0} (key : X → K) (rows : List X) (j : ℕ) (own : K)
      → slice_get (distinct same (map key rows)) j ≡ Some own
      → picked rows (places_of j (groups same (map key rows))) ≡ filter (λ r. same own (key r)) rows
  rows_of_group key rows j own at =
      let keys = map key rows in
      let ds = distinct same keys in
      ap (λ ns. picked rows (places_of j ns)) (map-twice key (place_in same ds) rows)
      ∙ rows_of_bucket (λ r. place_in same ds (key r)) rows j
      ∙ same_rows key ds (are_distinct same laws keys).apart j own at rows
      (are_distinct same laws keys).all

-- what a split has
number_get : {X : Type 0} (f : ℕ → X) (first count j : ℕ) → j < count
    → slice_get (map f (numbers_from first count)) j ≡ Some (f (first + j))
number_get f first zero j below = absurd (omega arith)
number_get f first (suc count) zero below =
    let e : first ≡ first + 0 = omega arith in ap (λ n. Some (f n)) e
number_get f first (suc count) (suc j) below =
    let e : suc first + j ≡ first + suc j = omega arith in
    number_get f (suc first) count j (omega arith) ∙ ap (λ n. Some (f n)) e

kept_by : (P : ℕ → Type 0) (b : Bool) (i : ℕ) (ps : List ℕ) → P i → All P ps
    → All P (if b then i ∷ ps else ps)
kept_by P true i ps here all = All-cons P i ps here all
kept_by P false i ps here all = all

places_inside : (first j : ℕ) (ns : List ℕ)
    → All (λ p. p < first + length ns) (places_from first j ns)
places_inside first j [] = All-nil (λ p. p < first + 0)
places_inside first j (n ∷ ns) =
    let e : suc first + length ns ≡ first + length (n ∷ ns) = omega arith in
    kept_by (λ p. p < first + length (n ∷ ns)) (n == j) first (places_from (suc first) j ns)
    (omega arith)
    (subst (λ m. All (λ p. p < m) (places_from (suc first) j ns)) e
    (places_inside (suc first) j ns))

all_inside : (ns : List ℕ) (first count : ℕ)
    → All (λ p. p < length ns) (concat (map (λ j. places_of j ns) (numbers_from first count)))
all_inside ns first zero = All-nil (λ p. p < length ns)
all_inside ns first (suc count) =
    let e : 0 + length ns ≡ length ns = omega arith in
    All-append (λ p. p < length ns) (places_of first ns)
    (concat (map (λ j. places_of j ns) (numbers_from (suc first) count)))
    (subst (λ m. All (λ p. p < m) (places_of first ns)) e (places_inside 0 first ns))
    (all_inside ns (suc first) count)

pub is_split : (n : ℕ) (ns : List ℕ) → IsSplit n ns
is_split n ns = record {
  count = length-numbers (λ j. places_of j ns) 0 n;
  each = λ j below.
      let e : 0 + j ≡ j = omega arith in
      number_get (λ j. places_of j ns) 0 n j below ∙ ap (λ k. Some (places_of k ns)) e;
  within = all_inside ns 0 n;
}
