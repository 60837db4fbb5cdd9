-- Rows in several runs, by what stands first in the groups of each.
use Rattle.std.proofs.Common.{◌≡◌, ◌∙◌, ℕ, ◌+◌, ◌<◌, List, [], ◌∷◌, ◌++◌, length, map, refl, ap, ap₂, sym, subst, arith, append-nil}
use Rattle.std.proofs.lemmas.List.{length-map, length-append, map-append}
use Rattle.std.proofs.lemmas.List.Concat.{flat_map-append}
use Rattle.std.proofs.lemmas.List.Elements.{All-append, All-nil, All-weaker}
use Rattle.std.specs.List.{All, flat_map}
use Rattle.sc_expr.specs.Heads.{first_of}
use Rattle.sc_keys.specs.Groups.{place_in}
use Rattle.sc_keys.specs.Keyed.{key_in, keys_in}
use Rattle.sc_lineage.specs.Keyed.{key_of, leaders}
use Rattle.sc_part.specs.Bounds.{is_same_key}
use Rattle.sc_value.specs.Datum.{Datum, pair}
use Rattle.sc_value.specs.Keys.{KeyData}
use Rattle.sc_value.specs.Picked.{ArePlaces, picked}
use Rattle.sc_value.proofs.PickedLemmas.{picked-map}
use Rattle.sc_combine.specs.Groupings.{AreLed, group_numbers, leads, twins}
use Rattle.sc_combine.proofs.DealLemmas.{map-twice}
use Rattle.sc_combine.proofs.PairLemmas.{keys-firsts}
use Rattle.sc_combine.proofs.NewLemmas.{leaders_of_runs}
use Rattle.sc_combine.proofs.PlaceLemmas.{picked_both, places_behind, places_stay, rows_known}
use Rattle.sc_combine.proofs.TwinLemmas.{firsts_of_twins, firsts_twins, keys_twins, leaders_twins, leads_of_runs, run_leaders, twin, twins_of_runs}

-- no runs have been grouped
pub led_none : AreLed [] [] []
led_none = record { led = refl; places = All-nil (λ i. i < 0); same = λ keys. refl }

-- one more run was grouped
module _ (run keys : List Datum) (numbers : List ℕ) (count : ℕ)
    (keys_are : keys ≡ leads run) (numbers_are : numbers ≡ group_numbers (twins run) (twins run))
    (count_is : count ≡ length (leaders (twins run))) (below : All (λ n. n < count) numbers) where
  run_keys : keys_in run ≡ map key_of (twins run)
  run_keys = sym (ap keys_in (firsts_of_twins run)) ∙ keys-firsts (twins run)

  run_same : (others : List KeyData)
      → map (place_in is_same_key others) (keys_in (picked keys numbers))
      ≡ map (place_in is_same_key others) (keys_in run)
  run_same others =
      let rows = twins run in
      let known = map key_of (leaders rows) in
      ap (map (place_in is_same_key others))
      (picked-map key_in numbers keys
      ∙ ap₂ picked (ap keys_in keys_are ∙ keys-firsts (leaders rows)) numbers_are)
      ∙ places_stay others known rows (rows_known rows)
      ∙ ap (map (place_in is_same_key others)) (sym run_keys)

  pub led_more : (runs : List (List Datum)) (firsts after : List Datum) (out more : List ℕ)
      → AreLed runs firsts out → after ≡ firsts ++ keys
      → more ≡ out ++ map (λ n. length firsts + n) numbers → AreLed (runs ++ run ∷ []) after more
  led_more runs firsts after out more so_far grown pushed =
      let size : count ≡ length keys =
      count_is ∙ sym (ap length keys_are ∙ length-map (leaders (twins run)) first_of) in
      let all = flat_map (λ r. r) runs in
      let later = map (λ n. length firsts + n) numbers in
      let inside : All (λ n. n < length keys) numbers =
      subst (λ m. All (λ n. n < m) numbers) size below in
      let sum : length (firsts ++ keys) ≡ length firsts + length keys = length-append firsts keys in
      record {
        led = grown ∙ ap₂ (λ a b. a ++ b) so_far.led keys_are
            ∙ ap (λ b. flat_map leads runs ++ b) (sym (append-nil (leads run)))
            ∙ sym (flat_map-append leads runs (run ∷ []));
        places = subst (λ f. ArePlaces f more) (sym grown)
            (subst (ArePlaces (firsts ++ keys)) (sym pushed)
            (All-append (λ i. i < length (firsts ++ keys)) out later
            (All-weaker (λ i. i < length firsts) (λ i. i < length (firsts ++ keys))
            (λ i less. omega (arith, less, sum)) out so_far.places)
            (subst (λ m. All (λ i. i < m) later) (sym sum)
            (places_behind (length firsts) (length keys) numbers inside))));
        same = λ others.
            let place = place_in is_same_key others in
            ap₂ (λ f ns. map place (keys_in (picked f ns))) grown pushed
            ∙ ap (λ ds. map place (keys_in ds)) (picked_both firsts keys out numbers so_far.places)
            ∙ ap (map place) (map-append key_in (picked firsts out) (picked keys numbers))
            ∙ map-append place (keys_in (picked firsts out)) (keys_in (picked keys numbers))
            ∙ ap₂ (λ a b. a ++ b) (so_far.same others) (run_same others)
            ∙ sym (map-append place (keys_in all) (keys_in run))
            ∙ ap (map place) (sym (map-append key_in all run))
            ∙ ap (λ ds. map place (keys_in (all ++ ds))) (sym (append-nil run))
            ∙ ap (λ ds. map place (keys_in ds)) (sym (flat_map-append (λ r. r) runs (run ∷ [])));
      }

-- what the groups of what stands first in the groups of all runs are for all rows
module _ (runs : List (List Datum)) (rows : List Datum)
    (column : flat_map (λ run. run) runs ≡ map first_of rows) where
  abbrev all_leaders : List Datum
  all_leaders = run_leaders runs

  leaders_are : leaders all_leaders ≡ map twin (leaders rows)
  leaders_are =
      leaders_of_runs (map twins runs)
      ∙ ap leaders (twins_of_runs runs ∙ ap twins column
      ∙ map-twice first_of (λ first. pair first first) rows)
      ∙ leaders_twins rows

  known_are : map key_of (leaders all_leaders) ≡ map key_of (leaders rows)
  known_are = ap (map key_of) leaders_are ∙ keys_twins (leaders rows)

  pub led_keys : (keys : List Datum) → keys ≡ map first_of (leaders all_leaders)
      → keys ≡ map first_of (leaders rows)
  led_keys keys are = are ∙ ap (map first_of) leaders_are ∙ firsts_twins (leaders rows)

  pub led_count : (count : ℕ) → count ≡ length (leaders all_leaders)
      → count ≡ length (leaders rows)
  led_count count is = is ∙ ap length leaders_are ∙ length-map (leaders rows) twin

  pub led_numbers : (firsts : List Datum) (places numbers out : List ℕ)
      → AreLed runs firsts places → numbers ≡ group_numbers all_leaders all_leaders
      → out ≡ picked numbers places → out ≡ group_numbers rows rows
  led_numbers firsts places numbers out led are is =
      let known = map key_of (leaders all_leaders) in
      let place = place_in is_same_key known in
      let column_is : keys_in firsts ≡ map key_of all_leaders =
      ap keys_in (led.led ∙ leads_of_runs runs) ∙ keys-firsts all_leaders in
      is ∙ ap (λ ns. picked ns places)
      (are ∙ sym (map-twice key_of place all_leaders) ∙ ap (map place) (sym column_is))
      ∙ sym (picked-map place places (keys_in firsts))
      ∙ ap (map place) (sym (picked-map key_in places firsts))
      ∙ led.same known
      ∙ ap (map place) (ap keys_in column ∙ keys-firsts rows)
      ∙ map-twice key_of place rows
      ∙ ap (λ ks. map (λ row. place_in is_same_key ks (key_of row)) rows) known_are
