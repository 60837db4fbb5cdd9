-- The places of keys among others, and of items in front of others and behind others.
use Rattle.std.proofs.Common.{◌≡◌, ◌∙◌, ℕ, ◌+◌, ◌<◌, Bool, true, false, cond, not, ◌||◌, List, [], ◌∷◌, ◌++◌, Some, length, map, zero, suc, ◌-◌, refl, ap, ap₂, sym, subst, arith, true≢false}
use Rattle.std.proofs.lemmas.List.Elements.{All-cons, All-head, All-nil, All-tail, filter_map-append}
use Rattle.std.specs.List.{All, cons_option, slice_get}
use Rattle.sc_columns.proofs.ListLemmas.{slice_get-append_second}
use Rattle.sc_keys.specs.Groups.{place_in}
use Rattle.sc_keys.proofs.GroupLemmas.{all_known}
use Rattle.sc_lineage.specs.Keyed.{key_of, leaders}
use Rattle.sc_part.specs.Bounds.{is_same_key}
use Rattle.sc_value.specs.Datum.{Datum}
use Rattle.sc_value.specs.Keys.{KeyData}
use Rattle.sc_value.specs.Picked.{ArePlaces, picked}
use Rattle.sc_combine.proofs.LeaderLemmas.{distinct_leaders, is_known, same_laws}

-- the same place for keys that are the same
place_same : (keys : List KeyData) (a b : KeyData) → is_same_key a b ≡ true
    → place_in is_same_key keys a ≡ place_in is_same_key keys b
place_same [] a b same = refl
place_same (k ∷ keys) a b same =
    ap₂ (λ c n. cond (not c) (1 + n) 0) (same_laws.congr a b k same) (place_same keys a b same)

-- at the place of a key that is known stands one that is the same
record Stands (keys : List KeyData) (key : KeyData) : Type 0 where
  one : KeyData
  at : slice_get keys (place_in is_same_key keys key) ≡ Some one
  same : is_same_key key one ≡ true

stands_by : (b : Bool) (keys : List KeyData) (k key : KeyData) → is_same_key key k ≡ b
    → (is_known keys key ≡ true → Stands keys key) → (b || is_known keys key) ≡ true
    → Stands (k ∷ keys) key
stands_by true keys k key is rest known = record {
  one = k;
  at = ap (λ c. slice_get (k ∷ keys) (cond (not c) (1 + place_in is_same_key keys key) 0)) is;
  same = is;
}
stands_by false keys k key is rest known =
    let there = rest known in
    let n = place_in is_same_key keys key in
    let next : 1 + n ≡ suc n = omega arith in
    record {
      one = there.one;
      at = ap (λ c. slice_get (k ∷ keys) (cond (not c) (1 + n) 0)) is
          ∙ ap (slice_get (k ∷ keys)) next ∙ there.at;
      same = there.same;
    }

stands : (keys : List KeyData) (key : KeyData) → is_known keys key ≡ true → Stands keys key
stands [] key known = absurd (true≢false (sym known))
stands (k ∷ keys) key known =
    stands_by (is_same_key key k) keys k key refl (stands keys key) known

pub places_stay : (others keys : List KeyData) (rows : List Datum)
    → All (λ k. is_known keys k ≡ true) (map key_of rows)
    → map (place_in is_same_key others)
    (picked keys (map (λ row. place_in is_same_key keys (key_of row)) rows))
    ≡ map (place_in is_same_key others) (map key_of rows)
places_stay others keys [] all = refl
places_stay others keys (row ∷ rows) all =
    let k = key_of row in
    let there = stands keys k (All-head (λ k. is_known keys k ≡ true) k (map key_of rows) all) in
    let ps = map (λ row. place_in is_same_key keys (key_of row)) rows in
    ap (λ o. map (place_in is_same_key others) (cons_option o (picked keys ps))) there.at
    ∙ ap₂ (λ n ns. n ∷ ns) (sym (place_same others k there.one there.same))
    (places_stay others keys rows (All-tail (λ k. is_known keys k ≡ true) k (map key_of rows) all))

pub rows_known : (rows : List Datum)
    → All (λ k. is_known (map key_of (leaders rows)) k ≡ true) (map key_of rows)
rows_known rows =
    subst (λ ks. All (λ k. is_known ks k ≡ true) (map key_of rows)) (distinct_leaders rows)
    (all_known is_same_key same_laws.refl [] (map key_of rows))

-- items at places in front of others, and behind others
get_front : {X : Type 0} (xs ys : List X) (i : ℕ) → i < length xs
    → slice_get (xs ++ ys) i ≡ slice_get xs i
get_front [] ys i within = absurd (omega arith)
get_front (x ∷ xs) ys zero within = refl
get_front (x ∷ xs) ys (suc i) within = get_front xs ys i (omega arith)

get_behind : {X : Type 0} (xs ys : List X) (i : ℕ)
    → slice_get (xs ++ ys) (length xs + i) ≡ slice_get ys i
get_behind xs ys i =
    slice_get-append_second xs ys (length xs + i) (omega arith)
    ∙ ap (slice_get ys) (let e : (length xs + i) - length xs ≡ i = omega arith in e)

picked_front : {X : Type 0} (xs ys : List X) (ps : List ℕ) → ArePlaces xs ps
    → picked (xs ++ ys) ps ≡ picked xs ps
picked_front xs ys [] within = refl
picked_front xs ys (p ∷ ps) within =
    ap₂ cons_option (get_front xs ys p (All-head (λ i. i < length xs) p ps within))
    (picked_front xs ys ps (All-tail (λ i. i < length xs) p ps within))

picked_behind : {X : Type 0} (xs ys : List X) (ps : List ℕ)
    → picked (xs ++ ys) (map (λ n. length xs + n) ps) ≡ picked ys ps
picked_behind xs ys [] = refl
picked_behind xs ys (p ∷ ps) = ap₂ cons_option (get_behind xs ys p) (picked_behind xs ys ps)

pub picked_both : {X : Type 0} (xs ys : List X) (ps qs : List ℕ) → ArePlaces xs ps
    → picked (xs ++ ys) (ps ++ map (λ n. length xs + n) qs) ≡ picked xs ps ++ picked ys qs
picked_both xs ys ps qs within =
    filter_map-append (slice_get (xs ++ ys)) ps (map (λ n. length xs + n) qs)
    ∙ ap₂ (λ a b. a ++ b) (picked_front xs ys ps within) (picked_behind xs ys qs)

pub places_behind : (few more : ℕ) (ns : List ℕ) → All (λ n. n < more) ns
    → All (λ i. i < few + more) (map (λ n. few + n) ns)
places_behind few more [] all = All-nil (λ i. i < few + more)
places_behind few more (n ∷ ns) all =
    let less = All-head (λ n. n < more) n ns all in
    All-cons (λ i. i < few + more) (few + n) (map (λ n. few + n) ns) (omega (arith, less))
    (places_behind few more ns (All-tail (λ n. n < more) n ns all))
