-- Rows of which each has one thing as its key and its value.
use Rattle.std.proofs.Common.{◌≡◌, ◌∙◌, Bool, true, false, cond, List, [], ◌∷◌, ◌++◌, map, refl, ap, ap₂, sym}
use Rattle.std.proofs.lemmas.List.{map-append}
use Rattle.std.specs.List.{flat_map}
use Rattle.sc_expr.specs.Heads.{first_of}
use Rattle.sc_lineage.specs.Keyed.{key_of, leaders}
use Rattle.sc_value.specs.Datum.{Datum, pair}
use Rattle.sc_value.specs.Keys.{KeyData}
use Rattle.sc_combine.specs.Groupings.{leads, twins}
use Rattle.sc_combine.proofs.LeaderLemmas.{is_known, leaders_new, new_rows}

-- rows of the same keys
abbrev pub twin : Datum → Datum
twin row = pair (first_of row) (first_of row)

twins_by : (b : Bool) (row : Datum) (same more : List Datum)
    → cond b (map twin same) (twin row ∷ map twin more) ≡ map twin (cond b same (row ∷ more))
twins_by true row same more = refl
twins_by false row same more = refl

new_twins : (keys : List KeyData) (rows : List Datum)
    → new_rows keys (map twin rows) ≡ map twin (new_rows keys rows)
new_twins keys [] = refl
new_twins keys (row ∷ rows) =
    let ks = keys ++ key_of row ∷ [] in
    ap₂ (λ a b. cond (is_known keys (key_of row)) a (twin row ∷ b)) (new_twins keys rows)
    (new_twins ks rows)
    ∙ twins_by (is_known keys (key_of row)) row (new_rows keys rows) (new_rows ks rows)

pub leaders_twins : (rows : List Datum) → leaders (map twin rows) ≡ map twin (leaders rows)
leaders_twins rows =
    leaders_new (map twin rows) ∙ new_twins [] rows ∙ ap (map twin) (sym (leaders_new rows))

pub keys_twins : (rows : List Datum) → map key_of (map twin rows) ≡ map key_of rows
keys_twins [] = refl
keys_twins (row ∷ rows) = ap (λ ks. key_of row ∷ ks) (keys_twins rows)

pub firsts_twins : (rows : List Datum) → map first_of (map twin rows) ≡ map first_of rows
firsts_twins [] = refl
firsts_twins (row ∷ rows) = ap (λ fs. first_of row ∷ fs) (firsts_twins rows)

pub firsts_of_twins : (firsts : List Datum) → map first_of (twins firsts) ≡ firsts
firsts_of_twins [] = refl
firsts_of_twins (first ∷ firsts) = ap (λ fs. first ∷ fs) (firsts_of_twins firsts)

pub twins_of_runs : (runs : List (List Datum))
    → flat_map (λ run. run) (map twins runs) ≡ twins (flat_map (λ run. run) runs)
twins_of_runs [] = refl
twins_of_runs (run ∷ runs) =
    ap (λ rows. twins run ++ rows) (twins_of_runs runs)
    ∙ sym (map-append (λ first. pair first first) run (flat_map (λ run. run) runs))

-- the rows that stand first in the groups of each of several runs, one run after another
abbrev pub run_leaders : List (List Datum) → List Datum
run_leaders runs = flat_map leaders (map twins runs)

-- what stands first in the groups of runs is the key of these rows
pub leads_of_runs : (runs : List (List Datum))
    → flat_map leads runs ≡ map first_of (run_leaders runs)
leads_of_runs [] = refl
leads_of_runs (run ∷ runs) =
    ap (λ fs. leads run ++ fs) (leads_of_runs runs)
    ∙ sym (map-append first_of (leaders (twins run)) (flat_map leaders (map twins runs)))
