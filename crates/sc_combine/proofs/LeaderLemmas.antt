-- The rows that stand first under their keys, as they are found row by row.
use Rattle.std.proofs.Common.{◌≡◌, ◌∙◌, ℕ, suc, ◌+◌, ◌==◌, Bool, true, false, cond, not, ◌&&◌, ◌||◌, List, [], ◌∷◌, ◌++◌, Option, Some, length, map, fold, filter, filter_map, refl, ap, ap₂, sym, arith, if◌then◌else◌, append_assoc, append-nil, ne_eqb, true≢false}
use Rattle.std.proofs.lemmas.Cmp.{eq_by_cmp_equiv}
use Rattle.std.proofs.lemmas.List.{length_push}
use Rattle.std.proofs.lemmas.List.Folds.{list_any-append}
use Rattle.std.specs.Cmp.{IsEquivalence}
use Rattle.std.specs.List.{cons_option, list_any, slice_get}
use Rattle.sc_keys.specs.Groups.{distinct, place_in, with_key}
use Rattle.sc_keys.proofs.GroupLemmas.{place_below}
use Rattle.sc_keys.proofs.PlaceLemmas.{is_itself}
use Rattle.sc_lineage.specs.Keyed.{key_of, leaders, same_key}
use Rattle.sc_part.specs.Bounds.{is_same_key}
use Rattle.sc_value.specs.Datum.{Datum}
use Rattle.sc_value.specs.Keys.{KeyData}
use Rattle.sc_value.proofs.KeyLemmas.{keys_ordered}
use Rattle.sc_combine.specs.Groupings.{firsts_from}

-- whether two keys are the same is an equivalence
pub same_laws : IsEquivalence is_same_key
same_laws = eq_by_cmp_equiv keys_ordered.total

-- whether a key is among some
abbrev pub is_known : List KeyData → KeyData → Bool
is_known keys key = list_any (is_same_key key) keys

-- the rows whose key is neither among some nor that of a row before them
abbrev pub new_rows : List KeyData → List Datum → List Datum
new_rows keys [] = []
new_rows keys (row ∷ rows) =
    if is_known keys (key_of row) then new_rows keys rows
    else row ∷ new_rows (keys ++ key_of row ∷ []) rows

pub known_same : (keys : List KeyData) (a b : KeyData) → is_same_key a b ≡ true
    → is_known keys a ≡ is_known keys b
known_same [] a b same = refl
known_same (k ∷ keys) a b same =
    ap₂ (λ x y. x || y) (same_laws.congr a b k same) (known_same keys a b same)

-- two filters, one behind the other
filter_step : (p : Datum → Bool) (b c : Bool) (x : Datum) (ys zs : List Datum) → filter p ys ≡ zs
    → p x ≡ c → filter p (cond b (x ∷ ys) ys) ≡ cond (c && b) (x ∷ zs) zs
filter_step p true true x ys zs rest is = ap₂ (λ t r. cond t (x ∷ r) r) is rest
filter_step p true false x ys zs rest is = ap₂ (λ t r. cond t (x ∷ r) r) is rest
filter_step p false true x ys zs rest is = rest
filter_step p false false x ys zs rest is = rest

filter_both : (p q w : Datum → Bool) → ((x : Datum) → w x ≡ (p x && q x)) → (xs : List Datum)
    → filter p (filter q xs) ≡ filter w xs
filter_both p q w is [] = refl
filter_both p q w is (x ∷ xs) =
    filter_step p (q x) (p x) x (filter q xs) (filter w xs) (filter_both p q w is xs) refl
    ∙ ap (λ b. cond b (x ∷ filter w xs) (filter w xs)) (sym (is x))

filter_all : (xs : List Datum) → filter (λ x. true) xs ≡ xs
filter_all [] = refl
filter_all (x ∷ xs) = ap (λ r. x ∷ r) (filter_all xs)

-- whether a row's key isn't among some
abbrev is_new : List KeyData → Datum → Bool
is_new keys row = not (is_known keys (key_of row))

known_by : (k s : Bool) → (s ≡ true → k ≡ true) → not k ≡ (not k && not s)
known_by true s within = refl
known_by false true within = absurd (true≢false (sym (within refl)))
known_by false false within = refl

new_by : (k s t : Bool) → s ≡ t → not (k || (s || false)) ≡ (not k && not t)
new_by true s t is = refl
new_by false true true is = refl
new_by false false false is = refl
new_by false true false is = absurd (true≢false is)
new_by false false true is = absurd (true≢false (sym is))

-- under a known key there is no new row
still_new : (keys : List KeyData) (row other : Datum) → is_known keys (key_of row) ≡ true
    → is_new keys other ≡ (is_new keys other && not (same_key row other))
still_new keys row other known =
    known_by (is_known keys (key_of other)) (same_key row other)
    (λ same. sym (known_same keys (key_of row) (key_of other) same) ∙ known)

-- one key more
one_more : (keys : List KeyData) (row other : Datum)
    → is_new (keys ++ key_of row ∷ []) other ≡ (is_new keys other && not (same_key row other))
one_more keys row other =
    ap not (list_any-append (is_same_key (key_of other)) keys (key_of row ∷ []))
    ∙ new_by (is_known keys (key_of other)) (is_same_key (key_of other) (key_of row))
    (same_key row other) (same_laws.symm (key_of other) (key_of row))

new_step : (b : Bool) (keys : List KeyData) (row : Datum) (rows : List Datum)
    → is_known keys (key_of row) ≡ b
    → ((ks : List KeyData) → new_rows ks rows ≡ filter (is_new ks) (leaders rows))
    → cond b (new_rows keys rows) (row ∷ new_rows (keys ++ key_of row ∷ []) rows)
    ≡ cond (not b)
    (row ∷ filter (is_new keys) (filter (λ other. not (same_key row other)) (leaders rows)))
    (filter (is_new keys) (filter (λ other. not (same_key row other)) (leaders rows)))
new_step true keys row rows is rest =
    rest keys
    ∙ sym (filter_both (is_new keys) (λ other. not (same_key row other)) (is_new keys)
    (λ other. still_new keys row other is) (leaders rows))
new_step false keys row rows is rest =
    ap (λ r. row ∷ r)
    (rest (keys ++ key_of row ∷ [])
    ∙ sym (filter_both (is_new keys) (λ other. not (same_key row other))
    (is_new (keys ++ key_of row ∷ [])) (one_more keys row) (leaders rows)))

new-leaders : (keys : List KeyData) (rows : List Datum)
    → new_rows keys rows ≡ filter (is_new keys) (leaders rows)
new-leaders keys [] = refl
new-leaders keys (row ∷ rows) =
    new_step (is_known keys (key_of row)) keys row rows refl (λ ks. new-leaders ks rows)

-- the leaders are the new rows where no key is known
pub leaders_new : (rows : List Datum) → leaders rows ≡ new_rows [] rows
leaders_new rows = sym (new-leaders [] rows ∙ filter_all (leaders rows))

keys_step : (b : Bool) (keys : List KeyData) (row : Datum) (rows : List Datum)
    → ((ks : List KeyData) → fold (with_key is_same_key) ks (map key_of rows)
    ≡ ks ++ map key_of (new_rows ks rows))
    → fold (with_key is_same_key) (if b then keys else keys ++ key_of row ∷ []) (map key_of rows)
    ≡ keys ++ map key_of (cond b (new_rows keys rows)
    (row ∷ new_rows (keys ++ key_of row ∷ []) rows))
keys_step true keys row rows rest = rest keys
keys_step false keys row rows rest =
    rest (keys ++ key_of row ∷ [])
    ∙ append_assoc keys (key_of row ∷ []) (map key_of (new_rows (keys ++ key_of row ∷ []) rows))

-- the keys behind some are those of the new rows
pub fold_keys : (keys : List KeyData) (rows : List Datum)
    → fold (with_key is_same_key) keys (map key_of rows) ≡ keys ++ map key_of (new_rows keys rows)
fold_keys keys [] = sym (append-nil keys)
fold_keys keys (row ∷ rows) =
    keys_step (is_known keys (key_of row)) keys row rows (λ ks. fold_keys ks rows)

-- the distinct keys are those of the leaders
pub distinct_leaders : (rows : List Datum)
    → distinct is_same_key (map key_of rows) ≡ map key_of (leaders rows)
distinct_leaders rows = fold_keys [] rows ∙ ap (map key_of) (sym (leaders_new rows))

-- the place of a key that is known, and of one that is new
or_first : (a b : Bool) → (a || b) ≡ false → a ≡ false
or_first true b e = absurd (true≢false e)
or_first false b e = refl

or_second : (a b : Bool) → (a || b) ≡ false → b ≡ false
or_second true b e = absurd (true≢false e)
or_second false b e = e

kept_by : (b any : Bool) (n m : ℕ) → (any ≡ true → n ≡ m) → (b || any) ≡ true
    → cond (not b) (1 + n) 0 ≡ cond (not b) (1 + m) 0
kept_by true any n m rest e = refl
kept_by false any n m rest e = ap (λ k. 1 + k) (rest e)

pub place_known : (keys more : List KeyData) (k : KeyData) → is_known keys k ≡ true
    → place_in is_same_key (keys ++ more) k ≡ place_in is_same_key keys k
place_known [] more k known = absurd (true≢false (sym known))
place_known (x ∷ keys) more k known =
    kept_by (is_same_key k x) (is_known keys k) (place_in is_same_key (keys ++ more) k)
    (place_in is_same_key keys k) (place_known keys more k) known

pub place_new : (keys more : List KeyData) (k : KeyData) → is_known keys k ≡ false
    → place_in is_same_key (keys ++ k ∷ more) k ≡ length keys
place_new [] more k new =
    ap (λ b. cond (not b) (1 + place_in is_same_key more k) 0) (same_laws.refl k)
place_new (x ∷ keys) more k new =
    ap (λ b. cond (not b) (1 + place_in is_same_key (keys ++ k ∷ more) k) 0)
    (or_first (is_same_key k x) (is_known keys k) new)
    ∙ ap (λ n. 1 + n) (place_new keys more k (or_second (is_same_key k x) (is_known keys k) new))
    ∙ omega arith

pub place_none : (keys : List KeyData) (k : KeyData) → is_known keys k ≡ false
    → place_in is_same_key keys k ≡ length keys
place_none [] k new = refl
place_none (x ∷ keys) k new =
    ap (λ b. cond (not b) (1 + place_in is_same_key keys k) 0)
    (or_first (is_same_key k x) (is_known keys k) new)
    ∙ ap (λ n. 1 + n) (place_none keys k (or_second (is_same_key k x) (is_known keys k) new))
    ∙ omega arith

-- the numbers of rows among all keys
abbrev pub numbers_of : List KeyData → List Datum → List ℕ
numbers_of all rows = map (λ row. place_in is_same_key all (key_of row)) rows

module _ (all : List KeyData) where
  -- a row under a known key has a number below theirs
  pub number_known : (keys : List KeyData) (row : Datum) (rows : List Datum)
      → is_known keys (key_of row) ≡ true → all ≡ keys ++ map key_of rows
      → place_in is_same_key all (key_of row) ≡ place_in is_same_key keys (key_of row)
  number_known keys row rows known are =
      ap (λ ks. place_in is_same_key ks (key_of row)) are
      ∙ place_known keys (map key_of rows) (key_of row) known

  -- a new row has the next number
  pub number_new : (keys : List KeyData) (row : Datum) (rows : List Datum)
      → is_known keys (key_of row) ≡ false → all ≡ keys ++ key_of row ∷ map key_of rows
      → place_in is_same_key all (key_of row) ≡ length keys
  number_new keys row rows new are =
      ap (λ ks. place_in is_same_key ks (key_of row)) are
      ∙ place_new keys (map key_of rows) (key_of row) new

  pick_step : (b : Bool) (get : ℕ → Option Datum) (i : ℕ) (keys : List KeyData) (row : Datum)
      (rows : List Datum) → is_known keys (key_of row) ≡ b → get i ≡ Some row
      → all ≡ keys ++ map key_of (cond b (new_rows keys rows)
      (row ∷ new_rows (keys ++ key_of row ∷ []) rows))
      → ((ks : List KeyData) → all ≡ ks ++ map key_of (new_rows ks rows)
      → filter_map get (firsts_from (length ks) (suc i) (numbers_of all rows)) ≡ new_rows ks rows)
      → filter_map get (if place_in is_same_key all (key_of row) == length keys
      then i ∷ firsts_from (suc (length keys)) (suc i) (numbers_of all rows)
      else firsts_from (length keys) (suc i) (numbers_of all rows))
      ≡ cond b (new_rows keys rows) (row ∷ new_rows (keys ++ key_of row ∷ []) rows)
  pick_step true get i keys row rows is at are rest =
      let ns = numbers_of all rows in
      let n = number_known keys row (new_rows keys rows) is are in
      let few = place_below is_same_key same_laws.refl keys (key_of row) is in
      let other : (place_in is_same_key all (key_of row) == length keys) ≡ false =
      ne_eqb (place_in is_same_key all (key_of row)) (length keys)
      (λ e. absurd (omega (arith, n, few, e))) in
      ap (λ b. filter_map get (if b then i ∷ firsts_from (suc (length keys)) (suc i) ns
      else firsts_from (length keys) (suc i) ns)) other
      ∙ rest keys are
  pick_step false get i keys row rows is at are rest =
      let ns = numbers_of all rows in
      let more = keys ++ key_of row ∷ [] in
      let next : all ≡ more ++ map key_of (new_rows more rows) =
      are ∙ sym (append_assoc keys (key_of row ∷ []) (map key_of (new_rows more rows))) in
      let n = number_new keys row (new_rows more rows) is are in
      let size : suc (length keys) ≡ length more =
      sym (length_push keys (key_of row) ∙ omega arith) in
      ap (λ m. filter_map get (if m == length keys
      then i ∷ firsts_from (suc (length keys)) (suc i) ns
      else firsts_from (length keys) (suc i) ns)) n
      ∙ ap (λ b. filter_map get (if b then i ∷ firsts_from (suc (length keys)) (suc i) ns
      else firsts_from (length keys) (suc i) ns)) (is_itself (length keys))
      ∙ ap₂ cons_option at
      (ap (λ m. filter_map get (firsts_from m (suc i) ns)) size ∙ rest more next)

  -- the rows at the places that stand first
  pub picked_firsts : (get : ℕ → Option Datum) (i : ℕ) (keys : List KeyData) (rows : List Datum)
      → ((n : ℕ) → get (i + n) ≡ slice_get rows n) → all ≡ keys ++ map key_of (new_rows keys rows)
      → filter_map get (firsts_from (length keys) i (numbers_of all rows)) ≡ new_rows keys rows
  picked_firsts get i keys [] at are = refl
  picked_firsts get i keys (row ∷ rows) at are =
      let here : i ≡ i + 0 = omega arith in
      pick_step (is_known keys (key_of row)) get i keys row rows refl (ap get here ∙ at 0) are
      (λ ks all_are. picked_firsts get (suc i) ks rows
      (λ n. let e : suc i + n ≡ i + suc n = omega arith in ap get e ∙ at (suc n)) all_are)
