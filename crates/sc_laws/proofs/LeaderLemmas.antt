-- The distinct keys of rows are those of their leaders.
use Rattle.std.proofs.Common.{◌≡◌, ◌∙◌, Bool, true, false, cond, not, ◌&&◌, ◌||◌, List, [], ◌∷◌, ◌++◌, map, fold, filter, refl, ap, ap₂, sym, append_assoc, append-nil, true≢false}
use Rattle.std.proofs.lemmas.List.Folds.{list_any-append}
use Rattle.std.specs.List.{list_any}
use Rattle.sc_value.specs.Datum.{Datum}
use Rattle.sc_value.specs.Keys.{KeyData}
use Rattle.sc_keys.specs.Groups.{with_key}
use Rattle.sc_part.specs.Bounds.{is_same_key}
use Rattle.sc_lineage.specs.Keyed.{key_of, leaders, same_key}
use Rattle.sc_laws.specs.Combines.{LeaderLaw}
use Rattle.sc_laws.proofs.FilterLemmas.{filter_both, is_other, same_laws}

-- whether a key is among some
abbrev is_known : List KeyData → KeyData → Bool
is_known keys key = list_any (is_same_key key) keys

-- whether a row's key isn't among some
abbrev is_new : List KeyData → Datum → Bool
is_new keys row = not (is_known keys (key_of row))

known_same : (keys : List KeyData) (a b : KeyData) → is_same_key a b ≡ true
    → is_known keys a ≡ is_known keys b
known_same [] a b same = refl
known_same (k ∷ keys) a b same =
    ap₂ (λ x y. x || y) (same_laws.congr a b k same) (known_same keys a b same)

known_by : (k s : Bool) → (s ≡ true → k ≡ true) → not k ≡ (not k && not s)
known_by true s within = refl
known_by false true within = absurd (true≢false (sym (within refl)))
known_by false false within = refl

new_by : (k s t : Bool) → s ≡ t → not (k || (s || false)) ≡ (not k && not t)
new_by true s t is = refl
new_by false true true is = refl
new_by false false false is = refl
new_by false true false is = absurd (true≢false is)
new_by false false true is = absurd (true≢false (sym is))

-- under a known key there is no new row
still_new : (keys : List KeyData) (row other : Datum) → is_known keys (key_of row) ≡ true
    → is_new keys other ≡ (is_new keys other && is_other row other)
still_new keys row other known =
    known_by (is_known keys (key_of other)) (same_key row other)
    (λ same. sym (known_same keys (key_of row) (key_of other) same) ∙ known)

-- one key more
one_more : (keys : List KeyData) (row other : Datum)
    → is_new (keys ++ key_of row ∷ []) other ≡ (is_new keys other && is_other row other)
one_more keys row other =
    ap not (list_any-append (is_same_key (key_of other)) keys (key_of row ∷ []))
    ∙ new_by (is_known keys (key_of other)) (is_same_key (key_of other) (key_of row))
    (same_key row other) (same_laws.symm (key_of other) (key_of row))

-- the keys of rows behind some keys
abbrev AreBehind : List Datum → Type 0
AreBehind rows =
    (keys : List KeyData) → fold (with_key is_same_key) keys (map key_of rows)
    ≡ keys ++ map key_of (filter (is_new keys) (leaders rows))

new_step : (b : Bool) (keys : List KeyData) (row : Datum) (rows : List Datum)
    → is_known keys (key_of row) ≡ b → AreBehind rows
    → fold (with_key is_same_key) (cond b keys (keys ++ key_of row ∷ [])) (map key_of rows)
    ≡ keys ++ map key_of (cond (not b)
    (row ∷ filter (is_new keys) (filter (is_other row) (leaders rows)))
    (filter (is_new keys) (filter (is_other row) (leaders rows))))
new_step true keys row rows is rest =
    rest keys
    ∙ ap (λ (rs : List Datum). keys ++ map key_of rs)
    (sym (filter_both (is_new keys) (is_other row) (is_new keys)
    (λ other. still_new keys row other is) (leaders rows)))
new_step false keys row rows is rest =
    let more = keys ++ key_of row ∷ [] in
    rest more
    ∙ append_assoc keys (key_of row ∷ []) (map key_of (filter (is_new more) (leaders rows)))
    ∙ ap (λ (rs : List Datum). keys ++ key_of row ∷ map key_of rs)
    (sym (filter_both (is_new keys) (is_other row) (is_new more) (one_more keys row)
    (leaders rows)))

are_behind : (rows : List Datum) → AreBehind rows
are_behind [] keys = sym (append-nil keys)
are_behind (row ∷ rows) keys =
    new_step (is_known keys (key_of row)) keys row rows refl (are_behind rows)

filter_all : (xs : List Datum) → filter (λ x. true) xs ≡ xs
filter_all [] = refl
filter_all (x ∷ xs) = ap (λ r. x ∷ r) (filter_all xs)

pub leaders_lead : LeaderLaw
leaders_lead rows = are_behind rows [] ∙ ap (map key_of) (filter_all (leaders rows))
