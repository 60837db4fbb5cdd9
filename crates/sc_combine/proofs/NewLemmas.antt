-- The rows of several runs that stand first under their keys, by those of each run.
use Rattle.std.proofs.Common.{◌≡◌, ◌∙◌, Bool, true, false, cond, ◌||◌, List, [], ◌∷◌, ◌++◌, map, refl, ap, ap₂, sym, append_assoc, append-nil, true≢false}
use Rattle.std.proofs.lemmas.List.Folds.{list_any-append}
use Rattle.std.specs.List.{flat_map}
use Rattle.sc_lineage.specs.Keyed.{key_of, leaders}
use Rattle.sc_part.specs.Bounds.{is_same_key}
use Rattle.sc_value.specs.Datum.{Datum}
use Rattle.sc_value.specs.Keys.{KeyData}
use Rattle.sc_combine.proofs.LeaderLemmas.{is_known, known_same, leaders_new, new_rows}

-- keys that are all among others
abbrev Within : List KeyData → List KeyData → Type 0
Within few keys = (k : KeyData) → is_known few k ≡ true → is_known keys k ≡ true

or_left : (a b : Bool) → a ≡ true → (a || b) ≡ true
or_left true b e = refl
or_left false b e = absurd (true≢false (sym e))

or_right : (a b : Bool) → b ≡ true → (a || b) ≡ true
or_right true b e = refl
or_right false b e = e

known_behind : (b c : Bool) (keys : List KeyData) (k x : KeyData) → is_known keys x ≡ b
    → is_same_key x k ≡ c → is_known (keys ++ k ∷ []) x ≡ (b || (c || false))
known_behind b c keys k x is same =
    list_any-append (is_same_key x) keys (k ∷ []) ∙ ap₂ (λ p q. p || (q || false)) is same

within_known : (few keys : List KeyData) (k : KeyData) → Within few keys
    → is_known keys k ≡ true → Within (few ++ k ∷ []) keys
within_known few keys k within known x there = by (is_known few x) (is_same_key x k) refl refl
  where
    by : (b c : Bool) → is_known few x ≡ b → is_same_key x k ≡ c → is_known keys x ≡ true
    by true c is same = within x is
    by false true is same = known_same keys x k same ∙ known
    by false false is same =
        absurd (true≢false (sym there ∙ known_behind false false few k x is same))

within_both : (few keys : List KeyData) (k : KeyData) → Within few keys
    → Within (few ++ k ∷ []) (keys ++ k ∷ [])
within_both few keys k within x there = by (is_known few x) (is_same_key x k) refl refl
  where
    by : (b c : Bool) → is_known few x ≡ b → is_same_key x k ≡ c
        → is_known (keys ++ k ∷ []) x ≡ true
    by true c is same =
        list_any-append (is_same_key x) keys (k ∷ [])
        ∙ or_left (is_known keys x) (is_same_key x k || false) (within x is)
    by false true is same =
        list_any-append (is_same_key x) keys (k ∷ [])
        ∙ or_right (is_known keys x) (is_same_key x k || false) (ap (λ b. b || false) same)
    by false false is same =
        absurd (true≢false (sym there ∙ known_behind false false few k x is same))

inner_by : (b c : Bool) (keys few : List KeyData) (row : Datum) (rows : List Datum)
    → Within few keys → is_known few (key_of row) ≡ b → is_known keys (key_of row) ≡ c
    → ((ks fs : List KeyData) → Within fs ks → new_rows ks (new_rows fs rows) ≡ new_rows ks rows)
    → new_rows keys (cond b (new_rows few rows) (row ∷ new_rows (few ++ key_of row ∷ []) rows))
    ≡ cond c (new_rows keys rows) (row ∷ new_rows (keys ++ key_of row ∷ []) rows)
inner_by true true keys few row rows within inner outer rest = rest keys few within
inner_by true false keys few row rows within inner outer rest =
    absurd (true≢false (sym (within (key_of row) inner) ∙ outer))
inner_by false true keys few row rows within inner outer rest =
    let more = few ++ key_of row ∷ [] in
    ap (λ b. cond b (new_rows keys (new_rows more rows))
    (row ∷ new_rows (keys ++ key_of row ∷ []) (new_rows more rows))) outer
    ∙ rest keys more (within_known few keys (key_of row) within outer)
inner_by false false keys few row rows within inner outer rest =
    let more = few ++ key_of row ∷ [] in
    let ks = keys ++ key_of row ∷ [] in
    ap (λ b. cond b (new_rows keys (new_rows more rows)) (row ∷ new_rows ks (new_rows more rows)))
    outer
    ∙ ap (λ r. row ∷ r) (rest ks more (within_both few keys (key_of row) within))

-- what is new is so too among those that are new where fewer keys are known
new_inner : (keys few : List KeyData) (rows : List Datum) → Within few keys
    → new_rows keys (new_rows few rows) ≡ new_rows keys rows
new_inner keys few [] within = refl
new_inner keys few (row ∷ rows) within =
    inner_by (is_known few (key_of row)) (is_known keys (key_of row)) keys few row rows within
    refl refl (λ ks fs w. new_inner ks fs rows w)

new_of_leaders : (keys : List KeyData) (rows : List Datum)
    → new_rows keys (leaders rows) ≡ new_rows keys rows
new_of_leaders keys rows =
    ap (new_rows keys) (leaders_new rows)
    ∙ new_inner keys [] rows (λ k none. absurd (true≢false (sym none)))

append_by : (b : Bool) (keys : List KeyData) (row : Datum) (xs ys : List Datum)
    → ((ks : List KeyData) → new_rows ks (xs ++ ys)
    ≡ new_rows ks xs ++ new_rows (ks ++ map key_of (new_rows ks xs)) ys)
    → cond b (new_rows keys (xs ++ ys)) (row ∷ new_rows (keys ++ key_of row ∷ []) (xs ++ ys))
    ≡ cond b (new_rows keys xs) (row ∷ new_rows (keys ++ key_of row ∷ []) xs)
    ++ new_rows (keys ++ map key_of (cond b (new_rows keys xs)
    (row ∷ new_rows (keys ++ key_of row ∷ []) xs))) ys
append_by true keys row xs ys rest = rest keys
append_by false keys row xs ys rest =
    let more = keys ++ key_of row ∷ [] in
    ap (λ r. row ∷ r) (rest more
    ∙ ap (λ ks. new_rows more xs ++ new_rows ks ys)
    (append_assoc keys (key_of row ∷ []) (map key_of (new_rows more xs))))

new-append : (keys : List KeyData) (xs ys : List Datum)
    → new_rows keys (xs ++ ys)
    ≡ new_rows keys xs ++ new_rows (keys ++ map key_of (new_rows keys xs)) ys
new-append keys [] ys = ap (λ ks. new_rows ks ys) (sym (append-nil keys))
new-append keys (row ∷ xs) ys =
    append_by (is_known keys (key_of row)) keys row xs ys (λ ks. new-append ks xs ys)

new_of_runs : (keys : List KeyData) (runs : List (List Datum))
    → new_rows keys (flat_map leaders runs) ≡ new_rows keys (flat_map (λ run. run) runs)
new_of_runs keys [] = refl
new_of_runs keys (run ∷ runs) =
    let rest = flat_map leaders runs in
    new-append keys (leaders run) rest
    ∙ ap (λ rows. rows ++ new_rows (keys ++ map key_of rows) rest) (new_of_leaders keys run)
    ∙ ap (λ rows. new_rows keys run ++ rows)
    (new_of_runs (keys ++ map key_of (new_rows keys run)) runs)
    ∙ sym (new-append keys run (flat_map (λ run. run) runs))

-- the leaders of all runs are those of the leaders of each
pub leaders_of_runs : (runs : List (List Datum))
    → leaders (flat_map leaders runs) ≡ leaders (flat_map (λ run. run) runs)
leaders_of_runs runs =
    leaders_new (flat_map leaders runs) ∙ new_of_runs [] runs
    ∙ sym (leaders_new (flat_map (λ run. run) runs))
