-- The groups of rows.
use Rattle.std.proofs.Common.{◌≡◌, ◌∙◌, ℕ, ◌+◌, List, [], length, map, ap, sym, arith}
use Rattle.std.proofs.lemmas.List.{length-map}
use Rattle.std.specs.List.{slice_get}
use Rattle.sc_base.specs.Lists.{numbers_below}
use Rattle.sc_columns.specs.Columns.{zip_with}
use Rattle.sc_expr.specs.Heads.{first_of, list_value, second_of}
use Rattle.sc_keys.specs.Groups.{distinct, groups, place_in}
use Rattle.sc_keys.specs.Keyed.{keys_in}
use Rattle.sc_keys.specs.Splits.{places_of}
use Rattle.sc_lineage.specs.Keyed.{grouped, key_of, leaders, values_under}
use Rattle.sc_part.specs.Bounds.{is_same_key}
use Rattle.sc_value.specs.Datum.{Datum, pair}
use Rattle.sc_value.specs.Picked.{picked}
use Rattle.sc_value.proofs.PickedLemmas.{picked-map}
use Rattle.sc_combine.specs.Groupings.{firsts_from, group_numbers}
use Rattle.sc_combine.proofs.DealLemmas.{map-twice}
use Rattle.sc_combine.proofs.LeaderLemmas.{distinct_leaders, leaders_new, picked_firsts}
use Rattle.sc_combine.proofs.PairLemmas.{keys-firsts}
use Rattle.sc_combine.proofs.SideLemmas.{leaders_apart, side_values, zip-maps}

module _ (rows firsts : List Datum) (column : firsts ≡ map first_of rows) where
  keys_are_of : keys_in firsts ≡ map key_of rows
  keys_are_of = ap keys_in column ∙ keys-firsts rows

  -- the number of each row's group is the place of its key among those of the leaders
  pub numbers_are : (numbers : List ℕ) → numbers ≡ groups is_same_key (keys_in firsts)
      → numbers ≡ group_numbers rows rows
  numbers_are numbers are =
      are ∙ ap (groups is_same_key) keys_are_of
      ∙ ap (λ ks. map (place_in is_same_key ks) (map key_of rows)) (distinct_leaders rows)
      ∙ map-twice key_of (place_in is_same_key (map key_of (leaders rows))) rows

  -- there are as many groups as leaders
  pub count_is : (count : ℕ) → count ≡ length (distinct is_same_key (keys_in firsts))
      → count ≡ length (leaders rows)
  count_is count is =
      is ∙ ap (λ ks. length (distinct is_same_key ks)) keys_are_of
      ∙ ap length (distinct_leaders rows)
      ∙ length-map (leaders rows) key_of

  -- what stands as key at the places that stand first is that of the leaders
  pub keys_are : (keys : List Datum) (numbers places : List ℕ) → keys ≡ picked firsts places
      → places ≡ firsts_from 0 0 numbers → numbers ≡ group_numbers rows rows
      → keys ≡ map first_of (leaders rows)
  keys_are keys numbers places are places_are is =
      let get = slice_get rows in
      let at = λ (n : ℕ). let e : 0 + n ≡ n = omega arith in ap get e in
      are ∙ ap (λ ds. picked ds places) column ∙ sym (picked-map first_of places rows)
      ∙ ap (λ ps. map first_of (picked rows ps)) (places_are ∙ ap (firsts_from 0 0) is)
      ∙ ap (map first_of)
      (picked_firsts (map key_of (leaders rows)) get 0 [] rows at
      (ap (map key_of) (leaders_new rows)) ∙ sym (leaders_new rows))

-- one number for each row
pub length-numbers_of : (all rows : List Datum) → length (group_numbers all rows) ≡ length rows
length-numbers_of all rows =
    length-map rows (λ row. place_in is_same_key (map key_of (leaders all)) (key_of row))

pub length-groups : (rows : List Datum) (numbers : List ℕ) → numbers ≡ group_numbers rows rows
    → length numbers ≡ length rows
length-groups rows numbers are = ap length are ∙ length-numbers_of rows rows

-- the values of rows by group are those under the keys of their leaders
pub values_are : (all rows values : List Datum) (numbers : List ℕ) (count : ℕ)
    → values ≡ map second_of rows → numbers ≡ group_numbers all rows → count ≡ length (leaders all)
    → map (λ j. picked values (places_of j numbers)) (numbers_below count)
    ≡ map (λ row. values_under row rows) (leaders all)
values_are all rows values numbers count column are is =
    ap (λ vs. map (λ j. picked vs (places_of j numbers)) (numbers_below count)) column
    ∙ ap (λ ns. map (λ j. picked (map second_of rows) (places_of j ns)) (numbers_below count)) are
    ∙ ap (λ n. map (λ j. picked (map second_of rows) (places_of j (group_numbers all rows)))
    (numbers_below n)) is
    ∙ side_values rows (leaders all) (leaders_apart all)

-- keys beside lists of the values under them are the rows, grouped
pub grouped_is : (rows keys lists : List Datum) (side : List (List Datum))
    → keys ≡ map first_of (leaders rows) → lists ≡ map list_value side
    → side ≡ map (λ row. values_under row rows) (leaders rows)
    → zip_with pair keys lists ≡ grouped rows
grouped_is rows keys lists side keys_is lists_is side_is =
    ap (λ ks. zip_with pair ks lists) keys_is
    ∙ ap (zip_with pair (map first_of (leaders rows)))
    (lists_is ∙ ap (map list_value) side_is
    ∙ map-twice (λ row. values_under row rows) list_value (leaders rows))
    ∙ zip-maps first_of (λ row. list_value (values_under row rows)) (leaders rows)
