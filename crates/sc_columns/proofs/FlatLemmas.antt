-- The items of lists, one list's behind another's.
use Rattle.std.proofs.Common.{◌≡◌, ◌∙◌, ℕ, zero, suc, ◌+◌, ◌-◌, ◌<◌, ◌≤◌, List, [], ◌∷◌, ◌++◌, length, map, min, take, drop, get_or, refl, ap, ap₂, sym, arith}
use Rattle.std.proofs.lemmas.List.{append-nil, drop-drop, drop_more, length-drop, take_more}
use Rattle.std.proofs.lemmas.List.Concat.{flat_map-append}
use Rattle.std.proofs.lemmas.List.Elements.{All-append, All-cons, All-nil, filter_map-append}
use Rattle.std.proofs.lemmas.Option.{slice_get-get_or}
use Rattle.std.specs.List.{All, cons_option, flat_map, range_with_len, slice_get, slice_range}
use Rattle.sc_value.specs.Datum.{Datum, items_of, list_of, pair}
use Rattle.sc_value.specs.Picked.{ArePlaces, picked}
use Rattle.sc_value.specs.Words.{range_of}
use Rattle.sc_value.specs.declared.texts.Span.{Span}
use Rattle.sc_columns.specs.Columns.{group_at, zip_with}
use Rattle.sc_columns.specs.Flat.{IsExtent, items_in, places_of}
use Rattle.sc_columns.proofs.RangeLemmas.{take_same}

take_both : {X : Type 0} (k m : ℕ) (xs : List X)
    → take k xs ++ take m (drop k xs) ≡ take (k + m) xs
take_both zero m xs = ap (λ n. take n xs) (let e : m ≡ 0 + m = omega arith in e)
take_both (suc k) m [] =
    take_none m ∙ ap (λ n. take n []) (let e : suc (k + m) ≡ suc k + m = omega arith in e)
  where
    take_none : {X : Type 0} (n : ℕ) → take {A = X} n [] ≡ []
    take_none zero = refl
    take_none (suc n) = refl
take_both (suc k) m (x ∷ xs) =
    ap (λ ys. x ∷ ys) (take_both k m xs)
    ∙ ap (λ n. take n (x ∷ xs)) (let e : suc (k + m) ≡ suc k + m = omega arith in e)

ranges_join : {X : Type 0} (xs : List X) (a b c : ℕ) → a ≤ b → b ≤ c
    → slice_range xs a b ++ slice_range xs b c ≡ slice_range xs a c
ranges_join xs a b c p q =
    let place : b ≡ a + (b - a) = omega arith in
    let count : (b - a) + (c - b) ≡ c - a = omega arith in
    ap (λ d. take (b - a) (drop a xs) ++ take (c - b) d)
    (ap (λ n. drop n xs) place ∙ sym (drop-drop (b - a) a xs))
    ∙ take_both (b - a) (c - b) (drop a xs) ∙ ap (λ n. take n (drop a xs)) count

-- ranges without gaps, one more of them
pub extent_more : (spans : List Span) (all d : Span) (i : ℕ) → i < length spans
    → IsExtent (take i spans) all → all.from ≤ all.to
    → (get_or spans i d).from ≡ all.to → (get_or spans i d).from ≤ (get_or spans i d).to
    → IsExtent (take (i + 1) spans) (record { from = all.from; to = (get_or spans i d).to })
extent_more spans all d i within before ordered next rising xs =
    let s = get_or spans i d in
    let rising' : all.to ≤ (get_or spans i d).to = omega arith in
    ap (flat_map (range_of xs)) (take_more spans i d within)
    ∙ flat_map-append (range_of xs) (take i spans) (s ∷ [])
    ∙ ap (λ ys. ys ++ (range_of xs s ++ [])) (before xs)
    ∙ ap (λ ys. range_of xs all ++ ys) (append-nil (range_of xs s))
    ∙ ap (λ n. range_of xs all ++ slice_range xs n s.to) next
    ∙ ranges_join xs all.from all.to s.to ordered rising'

pub list_of-items_of : (ds : List Datum) → list_of (items_of ds) ≡ ds
list_of-items_of [] = refl
list_of-items_of (d ∷ ds) = ap (λ es. d ∷ es) (list_of-items_of ds)

-- the items of lists that are ranges
pub flat-ranges : (items : List Datum) (spans : List Span)
    → flat_map (range_of items) spans ≡ flat_map items_in (map (group_at items) spans)
flat-ranges items [] = refl
flat-ranges items (s ∷ spans) =
    ap₂ (λ xs ys. xs ++ ys) (sym (list_of-items_of (range_of items s))) (flat-ranges items spans)

-- rows that are no lists have no items
pub flat-none : {X : Type 0} (f : X → Datum) → ((x : X) → items_in (f x) ≡ [])
    → (xs : List X) → flat_map items_in (map f xs) ≡ []
flat-none f none [] = refl
flat-none f none (x ∷ xs) =
    ap (λ ds. ds ++ flat_map items_in (map f xs)) (none x) ∙ flat-none f none xs

pub flat-pairs : (xs ys : List Datum) → flat_map items_in (zip_with pair xs ys) ≡ []
flat-pairs [] ys = refl
flat-pairs (x ∷ xs) [] = refl
flat-pairs (x ∷ xs) (y ∷ ys) = flat-pairs xs ys

pub range_with_len_more : (a n : ℕ) → range_with_len a (n + 1) ≡ range_with_len a n ++ (a + n) ∷ []
range_with_len_more a zero = ap (λ k. k ∷ []) (let e : a ≡ a + 0 = omega arith in e)
range_with_len_more a (suc n) =
    ap (range_with_len a) (let e : suc n + 1 ≡ suc (n + 1) = omega arith in e)
    ∙ ap (λ r. a ∷ r) (range_with_len_more (a + 1) n)
    ∙ ap (λ k. a ∷ range_with_len (a + 1) n ++ k ∷ [])
    (let e : a + 1 + n ≡ a + suc n = omega arith in e)

picked-range : {X : Type 0} (xs : List X) (a n : ℕ) → (0 < n → a + n ≤ length xs)
    → picked xs (range_with_len a n) ≡ take n (drop a xs)
picked-range xs a zero within = refl
picked-range [] a (suc n) within =
    let past : a + suc n ≤ 0 = within (omega arith) in absurd (omega arith)
picked-range (x ∷ xs) a (suc n) within =
    let bound : a + suc n ≤ length (x ∷ xs) = within (omega arith) in
    let inside : a < length (x ∷ xs) = omega arith in
    let rest : 0 < n → a + 1 + n ≤ length (x ∷ xs) = λ h. omega arith in
    ap (λ o. cons_option o (picked (x ∷ xs) (range_with_len (a + 1) n)))
    (slice_get-get_or (x ∷ xs) a x inside)
    ∙ ap (λ r. get_or (x ∷ xs) a x ∷ r) (picked-range (x ∷ xs) (a + 1) n rest)
    ∙ ap (take (suc n)) (sym (drop_more (x ∷ xs) a x inside))

places-range : (n a k : ℕ) → (0 < k → a + k ≤ n) → All (λ i. i < n) (range_with_len a k)
places-range n a zero within = All-nil (λ i. i < n)
places-range n a (suc k) within =
    let bound : a + suc k ≤ n = within (omega arith) in
    let rest : 0 < k → a + 1 + k ≤ n = λ h. omega arith in
    All-cons (λ i. i < n) a (range_with_len (a + 1) k) (omega arith) (places-range n (a + 1) k rest)

module _ {X : Type 0} (xs : List X) where
  abbrev places_at : Span → List ℕ
  places_at s = places_of (length xs) s

  bounded : (s : Span) → 0 < min (length xs) s.to - s.from
      → s.from + (min (length xs) s.to - s.from) ≤ length xs
  bounded s some = omega arith

  picked-one : (s : Span) → picked xs (places_at s) ≡ range_of xs s
  picked-one s =
      picked-range xs s.from (min (length xs) s.to - s.from) (bounded s)
      ∙ take_same (min (length xs) s.to - s.from) (s.to - s.from) (drop s.from xs)
      (omega (arith, length-drop s.from xs))

  pub places-ranges : (spans : List Span) → ArePlaces xs (flat_map places_at spans)
  places-ranges [] = All-nil (λ i. i < length xs)
  places-ranges (s ∷ spans) =
      All-append (λ i. i < length xs) (places_at s) (flat_map places_at spans)
      (places-range (length xs) s.from (min (length xs) s.to - s.from) (bounded s))
      (places-ranges spans)

  pub picked-ranges : (spans : List Span)
      → picked xs (flat_map places_at spans) ≡ flat_map (range_of xs) spans
  picked-ranges [] = refl
  picked-ranges (s ∷ spans) =
      filter_map-append (slice_get xs) (places_at s) (flat_map places_at spans)
      ∙ ap₂ (λ a b. a ++ b) (picked-one s) (picked-ranges spans)
