-- Values put together by the numbers of their groups, beside the keys of their leaders.
use Rattle.std.proofs.Common.{◌≡◌, ◌∙◌, ℕ, zero, suc, ◌+◌, ◌<◌, ◌≤◌, Bool, true, false, cond, List, [], ◌∷◌, ◌++◌, Some, Ok, Err, length, map, set, refl, ap, sym, arith, append_assoc, append-nil}
use Rattle.std.proofs.lemmas.List.{length-append, length-map, length-set, map-append}
use Rattle.std.specs.List.{slice_get}
use Rattle.sc_columns.specs.Columns.{zip_with}
use Rattle.sc_columns.proofs.ListLemmas.{length-zip_with, there, zip_with-append}
use Rattle.sc_expr.specs.ExprData.{ExprData}
use Rattle.sc_expr.specs.Heads.{Outcome, first_of}
use Rattle.sc_expr.specs.Meaning.{two_values, value_of_expr}
use Rattle.sc_keys.specs.Groups.{place_in}
use Rattle.sc_keys.specs.Keyed.{key_in}
use Rattle.sc_keys.proofs.GroupLemmas.{place_below}
use Rattle.sc_lineage.specs.Keyed.{Side, combined, key_of, leaders, side_then}
use Rattle.sc_part.specs.Bounds.{is_same_key}
use Rattle.sc_value.specs.Datum.{Datum, pair}
use Rattle.sc_value.specs.Keys.{KeyData}
use Rattle.sc_combine.specs.Combining.{beside_key, folded_by, placed, put_at, put_beside, step_of}
use Rattle.sc_combine.specs.Groupings.{group_numbers}
use Rattle.sc_combine.specs.declared.combining.Taken.TheVariants.{Rows, Values}
use Rattle.sc_combine.proofs.FoldLemmas.{put_new}
use Rattle.sc_combine.proofs.RowLemmas.{combined_by_rows, mapped, put_behind}
use Rattle.sc_combine.proofs.LeaderLemmas.{is_known, leaders_new, new_rows, number_known, number_new, numbers_of, same_laws}

module _ (e : ExprData) where
  abbrev by_row : Datum → Datum → Outcome
  by_row = step_of Rows e

  abbrev by_value : Datum → Datum → Outcome
  by_value = step_of Values e

  module _ (all : List KeyData) where
    -- what is known so far: the keys of the values kept, and those that come
    abbrev AreAll : List KeyData → List Datum → Type 0
    AreAll keys rows = all ≡ keys ++ map key_of (new_rows keys rows)

    -- values beside their keys
    value_placed : (k : Datum) (keys kept : List Datum) (a : Datum) (o : Outcome)
        → placed (pair k a ∷ zip_with pair keys kept) 0 (beside_key (pair k a) o)
        ≡ mapped (zip_with pair (k ∷ keys)) (placed (a ∷ kept) 0 o)
    value_placed k keys kept a (Ok v) = refl
    value_placed k keys kept a (Err r) = refl

    in_front : (k a : Datum) (keys : List Datum) (side : Side)
        → mapped (λ ds. pair k a ∷ ds) (mapped (zip_with pair keys) side)
        ≡ mapped (zip_with pair (k ∷ keys)) (mapped (λ ds. a ∷ ds) side)
    in_front k a keys (Ok ds) = refl
    in_front k a keys (Err r) = refl

    put_value : (keys kept : List Datum) (n : ℕ) (key value : Datum) → length keys ≡ length kept
        → n < length kept
        → put_at by_row (zip_with pair keys kept) n (pair key value)
        ≡ mapped (zip_with pair keys) (put_at by_value kept n value)
    put_value [] kept n key value level within = absurd (omega arith)
    put_value (k ∷ keys) [] n key value level within = absurd (omega arith)
    put_value (k ∷ keys) (a ∷ kept) zero key value level within =
        value_placed k keys kept a (value_of_expr (two_values a value) e)
    put_value (k ∷ keys) (a ∷ kept) (suc n) key value level within =
        put_behind by_row (pair k a) (zip_with pair keys kept) n (pair key value)
        ∙ ap (mapped (λ ds. pair k a ∷ ds))
        (put_value keys kept n key value (omega arith) (omega arith))
        ∙ in_front k a keys (put_at by_value kept n value)
        ∙ sym (ap (mapped (zip_with pair (k ∷ keys))) (put_behind by_value a kept n value))

    -- a value of a known group leaves their number
    placed_size : (kept more : List Datum) (n : ℕ) (o : Outcome) → placed kept n o ≡ Ok more
        → length more ≡ length kept
    placed_size kept more n (Ok v) is =
        let e : set kept n v ≡ more = cc in sym (ap length e) ∙ length-set kept n v
    placed_size kept more n (Err r) is = absurd (cc)

    put_size : (kept more : List Datum) (n : ℕ) (value : Datum) (d : Datum)
        → slice_get kept n ≡ Some d → put_at by_value kept n value ≡ Ok more
        → length more ≡ length kept
    put_size kept more n value d at is =
        placed_size kept more n (by_value d value)
        (sym (ap (put_beside by_value kept n value) at) ∙ is)

    then_mapped : (keys : List Datum) (side : Side) (F G : List Datum → Side)
        (Z : List Datum → List Datum)
        → ((ds : List Datum) → side ≡ Ok ds → F (zip_with pair keys ds) ≡ mapped Z (G ds))
        → side_then F (mapped (zip_with pair keys) side) ≡ mapped Z (side_then G side)
    then_mapped keys (Ok ds) F G Z each = each ds refl
    then_mapped keys (Err r) F G Z each = refl

    abbrev keys_of : List Datum → List KeyData
    keys_of firsts = map key_in firsts

    abbrev ends_as : List Datum → List Datum → List Datum
    ends_as keys rows = keys ++ map first_of (new_rows (keys_of keys) rows)

    values_step : (b : Bool) (keys kept : List Datum) (key value : Datum) (rows values : List Datum)
        → length keys ≡ length kept → is_known (keys_of keys) (key_in key) ≡ b
        → all ≡ keys_of keys ++ map key_of (cond b (new_rows (keys_of keys) rows)
        (pair key value ∷ new_rows (keys_of keys ++ key_in key ∷ []) rows))
        → ((ks ds : List Datum) → length ks ≡ length ds → AreAll (keys_of ks) rows
        → folded_by by_row (zip_with pair ks ds) (numbers_of all rows) rows
        ≡ mapped (zip_with pair (ends_as ks rows))
        (folded_by by_value ds (numbers_of all rows) values))
        → side_then (λ more. folded_by by_row more (numbers_of all rows) rows)
        (put_at by_row (zip_with pair keys kept) (place_in is_same_key all (key_in key))
        (pair key value))
        ≡ mapped (zip_with pair (keys ++ map first_of (cond b (new_rows (keys_of keys) rows)
        (pair key value ∷ new_rows (keys_of keys ++ key_in key ∷ []) rows))))
        (side_then (λ more. folded_by by_value more (numbers_of all rows) values)
        (put_at by_value kept (place_in is_same_key all (key_in key)) value))
    values_step true keys kept key value rows values level known are rest =
        let n = place_in is_same_key all (key_in key) in
        let place = number_known all (keys_of keys) (pair key value) (new_rows (keys_of keys) rows)
        known are in
        let below = place_below is_same_key same_laws.refl (keys_of keys) (key_in key) known in
        let size = length-map keys key_in in
        let within : place_in is_same_key all (key_in key) < length kept =
        omega (arith, place, below, size, level) in
        let F = λ (ds : List Datum). folded_by by_row ds (numbers_of all rows) rows in
        let G = λ (ds : List Datum). folded_by by_value ds (numbers_of all rows) values in
        let own = there kept n within in
        ap (side_then F) (put_value keys kept n key value level within)
        ∙ then_mapped keys (put_at by_value kept n value) F G (zip_with pair (ends_as keys rows))
        (λ ds is. rest keys ds (level ∙ sym (put_size kept ds n value own.0 own.1 is)) are)
    values_step false keys kept key value rows values level new are rest =
        let n = place_in is_same_key all (key_in key) in
        let known = keys_of keys in
        let more = known ++ key_in key ∷ [] in
        let new_known = new_rows more rows in
        let place = number_new all known (pair key value) new_known new are in
        let size = length-map keys key_in in
        let past : length kept ≤ place_in is_same_key all (key_in key) =
        omega (arith, place, size, level) in
        let zipped = length-zip_with pair keys kept in
        let row_past : length (zip_with pair keys kept) ≤ place_in is_same_key all (key_in key) =
        omega (arith, zipped, past, level) in
        let ks = keys ++ key ∷ [] in
        let ds = kept ++ value ∷ [] in
        let pushed : keys_of ks ≡ more = map-append key_in keys (key ∷ []) in
        let next : zip_with pair ks ds ≡ zip_with pair keys kept ++ pair key value ∷ [] =
        zip_with-append pair keys (key ∷ []) kept (value ∷ []) level in
        let longer : length ks ≡ length ds =
        length-append keys (key ∷ []) ∙ ap (λ m. m + 1) level
        ∙ sym (length-append kept (value ∷ [])) in
        ap (side_then (λ ds. folded_by by_row ds (numbers_of all rows) rows))
        (put_new by_row (zip_with pair keys kept) (zip_with pair ks ds) n (pair key value) row_past
        next)
        ∙ rest ks ds longer
        (are ∙ sym (append_assoc known (key_in key ∷ []) (map key_of new_known))
        ∙ ap (λ xs. xs ++ map key_of (new_rows xs rows)) (sym pushed))
        ∙ ap (λ xs. mapped (zip_with pair (ks ++ map first_of (new_rows xs rows)))
        (folded_by by_value ds (numbers_of all rows) values)) pushed
        ∙ ap (λ xs. mapped (zip_with pair xs) (folded_by by_value ds (numbers_of all rows) values))
        (append_assoc keys (key ∷ []) (map first_of new_known))
        ∙ sym (ap (λ side. mapped (zip_with pair (keys ++ key ∷ map first_of new_known))
        (side_then (λ more. folded_by by_value more (numbers_of all rows) values) side))
        (put_new by_value kept ds n value past refl))

    values_folded : (keys kept firsts values : List Datum) → length keys ≡ length kept
        → length firsts ≡ length values → AreAll (keys_of keys) (zip_with pair firsts values)
        → folded_by by_row (zip_with pair keys kept) (numbers_of all (zip_with pair firsts values))
        (zip_with pair firsts values)
        ≡ mapped (zip_with pair (ends_as keys (zip_with pair firsts values)))
        (folded_by by_value kept (numbers_of all (zip_with pair firsts values)) values)
    values_folded keys kept [] [] level even are =
        ap (λ ks. Ok (zip_with pair ks kept)) (sym (append-nil keys))
    values_folded keys kept [] (v ∷ values) level even are = absurd (omega arith)
    values_folded keys kept (k ∷ firsts) [] level even are = absurd (omega arith)
    values_folded keys kept (k ∷ firsts) (v ∷ values) level even are =
        values_step (is_known (keys_of keys) (key_in k)) keys kept k v
        (zip_with pair firsts values) values level refl are
        (λ ks ds longer all_are. values_folded ks ds firsts values longer (omega arith) all_are)

  -- values put together, beside the keys of the leaders
  pub combined_by_values : (firsts values : List Datum) → length firsts ≡ length values
      → combined e (zip_with pair firsts values)
      ≡ mapped (zip_with pair (map first_of (leaders (zip_with pair firsts values))))
      (folded_by by_value [] (group_numbers (zip_with pair firsts values)
      (zip_with pair firsts values)) values)
  combined_by_values firsts values level =
      let rows = zip_with pair firsts values in
      let all = map key_of (leaders rows) in
      combined_by_rows e rows
      ∙ values_folded all [] [] firsts values refl level (ap (map key_of) (leaders_new rows))
      ∙ ap (λ ds. mapped (zip_with pair (map first_of ds))
      (folded_by by_value [] (group_numbers rows rows) values)) (sym (leaders_new rows))
