-- Rows that are pairs: their keys, by their first parts, and several runs of them.
use Rattle.std.proofs.Common.{◌≡◌, ◌∙◌, ℕ, ◌+◌, ◌<◌, List, [], ◌∷◌, ◌++◌, length, map, min, take, get_or, refl, ap, ap₂, sym, arith, append-nil}
use Rattle.std.proofs.lemmas.List.{take_more}
use Rattle.std.proofs.lemmas.List.Concat.{flat_map-append}
use Rattle.std.specs.List.{flat_map}
use Rattle.sc_columns.specs.Columns.{zip_with}
use Rattle.sc_columns.specs.Parts.{ArePairs}
use Rattle.sc_columns.specs.declared.views.Both.{Both}
use Rattle.sc_columns.proofs.ListLemmas.{length-zip_with, zip_with-append}
use Rattle.sc_expr.specs.Heads.{first_of}
use Rattle.sc_keys.specs.Keyed.{keys_in}
use Rattle.sc_lineage.specs.Keyed.{key_of}
use Rattle.sc_value.specs.Datum.{Datum, pair}

-- the keys of first parts are those of rows
pub keys-firsts : (rows : List Datum) → keys_in (map first_of rows) ≡ map key_of rows
keys-firsts [] = refl
keys-firsts (row ∷ rows) = ap (λ ks. key_of row ∷ ks) (keys-firsts rows)

-- the runs up to the next one
pub runs_more : (runs : List (List Datum)) (i : ℕ) (run : List Datum) → i < length runs
    → run ≡ get_or runs i run → take (i + 1) runs ≡ take i runs ++ run ∷ []
runs_more runs i run within at =
    take_more runs i run within ∙ ap (λ r. take i runs ++ r ∷ []) (sym at)

-- one more run of pairs
pub pairs_more : (runs : List (List Datum)) (i : ℕ) (run first second after more a b : List Datum)
    → i < length runs → run ≡ get_or runs i run → run ≡ zip_with pair a b
    → after ≡ first ++ a → more ≡ second ++ b → length first ≡ length second
    → zip_with pair first second ≡ flat_map (λ r. r) (take i runs)
    → zip_with pair after more ≡ flat_map (λ r. r) (take (i + 1) runs)
pairs_more runs i run first second after more a b within at is grown also level so_far =
    let before = flat_map (λ r. r) (take i runs) in
    ap₂ (zip_with pair) grown also
    ∙ zip_with-append pair first a second b level
    ∙ ap₂ (λ p q. p ++ q) so_far (sym is)
    ∙ ap (λ r. before ++ r) (sym (append-nil run))
    ∙ sym (flat_map-append (λ r. r) (take i runs) (run ∷ []))
    ∙ ap (flat_map (λ r. r)) (sym (runs_more runs i run within at))

-- columns of one length are the parts of the pairs of both
pub are_pairs : (rows : List Datum) (both : Both) → zip_with pair both.first both.second ≡ rows
    → length both.first ≡ length both.second → ArePairs rows both
are_pairs rows both is level =
    let size : length rows ≡ min (length both.first) (length both.second) =
    ap length (sym is) ∙ length-zip_with pair both.first both.second in
    record {
      are = sym is;
      first_len = omega (arith, size, level);
      second_len = omega (arith, size, level);
    }
