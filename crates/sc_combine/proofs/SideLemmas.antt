-- The values of a side by group.
use Rattle.std.proofs.Common.{◌≡◌, ◌∙◌, ℕ, zero, suc, ◌+◌, ◌==◌, Bool, true, false, cond, not, List, [], ◌∷◌, Some, length, map, refl, ap, ap₂, sym, subst, arith, ne_eqb}
use Rattle.std.proofs.lemmas.List.Elements.{filter_agree}
use Rattle.std.proofs.lemmas.Option.{slice_get-map}
use Rattle.std.specs.List.{AllByRecursion, IsDistinct, slice_get}
use Rattle.std.specs.Option.{option_map}
use Rattle.sc_base.specs.Lists.{numbers_below, numbers_from}
use Rattle.sc_columns.specs.Columns.{zip_with}
use Rattle.sc_expr.specs.Heads.{second_of}
use Rattle.sc_keys.specs.Groups.{place_in}
use Rattle.sc_keys.specs.Splits.{places_of}
use Rattle.sc_keys.proofs.GroupLemmas.{are_distinct}
use Rattle.sc_keys.proofs.LawLemmas.{rows_of_bucket}
use Rattle.sc_lineage.specs.Keyed.{key_of, leaders, same_key, values_under}
use Rattle.sc_part.specs.Bounds.{is_same_key}
use Rattle.sc_value.specs.Datum.{Datum, pair}
use Rattle.sc_value.specs.Keys.{KeyData}
use Rattle.sc_value.specs.Picked.{picked}
use Rattle.sc_value.proofs.PickedLemmas.{picked-map}
use Rattle.sc_combine.proofs.LeaderLemmas.{distinct_leaders, numbers_of, same_laws}

-- a key has the place of the distinct key that is the same
zero_by : (b : Bool) (n : ℕ) → (cond (not b) (1 + n) 0 == 0) ≡ b
zero_by true n = refl
zero_by false n = ne_eqb (1 + n) 0 (λ e. absurd (omega arith))

suc_same : (n j : ℕ) → (1 + n == suc j) ≡ (n == j)
suc_same n j = grind arith

each_at : (P : KeyData → Type 0) (ks : List KeyData) (j : ℕ) (k : KeyData) → AllByRecursion P ks
    → slice_get ks j ≡ Some k → P k
each_at P [] j k all at = absurd (cc)
each_at P (x ∷ ks) zero k all at = let e : x ≡ k = cc in subst P e all.0
each_at P (x ∷ ks) (suc j) k all at = each_at P ks j k all.1 at

later_by : (b : Bool) (x own k : KeyData) (ks : List KeyData) (j : ℕ) → is_same_key k x ≡ b
    → is_same_key x own ≡ false → (place_in is_same_key ks k == j) ≡ is_same_key own k
    → (cond (not b) (1 + place_in is_same_key ks k) 0 == suc j) ≡ is_same_key own k
later_by true x own k ks j is apart rest =
    ne_eqb 0 (suc j) (λ e. absurd (omega arith))
    ∙ sym (same_laws.symm own k ∙ same_laws.congr k x own is ∙ apart)
later_by false x own k ks j is apart rest = suc_same (place_in is_same_key ks k) j ∙ rest

place_is : (ks : List KeyData) → IsDistinct is_same_key ks → (j : ℕ) (own k : KeyData)
    → slice_get ks j ≡ Some own → (place_in is_same_key ks k == j) ≡ is_same_key own k
unfolding IsDistinct
place_is [] apart j own k at = absurd (cc)
place_is (x ∷ ks) apart zero own k at =
    let e : x ≡ own = cc in
    zero_by (is_same_key k x) (place_in is_same_key ks k) ∙ same_laws.symm k x
    ∙ ap (λ y. is_same_key y k) e
place_is (x ∷ ks) apart (suc j) own k at =
    later_by (is_same_key k x) x own k ks j refl
    (each_at (λ y. is_same_key x y ≡ false) ks j own apart.0 at) (place_is ks apart.1 j own k at)

-- what is made of each number below a length is what is made of each item
pub numbers_map : {X Y : Type 0} (f : ℕ → Y) (g : X → Y) (first : ℕ) (xs : List X)
    → ((j : ℕ) (x : X) → slice_get xs j ≡ Some x → f (first + j) ≡ g x)
    → map f (numbers_from first (length xs)) ≡ map g xs
numbers_map f g first [] each = refl
numbers_map f g first (x ∷ xs) each =
    let here : first ≡ first + 0 = omega arith in
    ap₂ (λ y ys. y ∷ ys) (ap f here ∙ each 0 x refl)
    (numbers_map f g (suc first) xs
    (λ j y at. let e : suc first + j ≡ first + suc j = omega arith in ap f e ∙ each (suc j) y at))

-- no two leaders have the same key
pub leaders_apart : (rows : List Datum) → IsDistinct is_same_key (map key_of (leaders rows))
leaders_apart rows =
    subst (IsDistinct is_same_key) (distinct_leaders rows)
    (are_distinct is_same_key same_laws (map key_of rows)).apart

module _ (side firsts : List Datum) where
  abbrev keys : List KeyData
  keys = map key_of firsts

  abbrev numbers : List ℕ
  numbers = numbers_of keys side

  values_at : (j : ℕ) (row : Datum) → IsDistinct is_same_key keys → slice_get firsts j ≡ Some row
      → picked (map second_of side) (places_of j numbers) ≡ values_under row side
  values_at j row apart at =
      let h = λ (r : Datum). place_in is_same_key keys (key_of r) in
      let own : slice_get keys j ≡ Some (key_of row) =
      slice_get-map key_of firsts j ∙ ap (option_map key_of) at in
      sym (picked-map second_of (places_of j numbers) side)
      ∙ ap (map second_of) (rows_of_bucket h side j
      ∙ filter_agree (λ r. h r == j) (same_key row)
      (λ r. place_is keys apart j (key_of row) (key_of r) own) side)

  -- the values of a side at the places of each group are those under its key
  pub side_values : IsDistinct is_same_key keys
      → map (λ j. picked (map second_of side) (places_of j numbers)) (numbers_below (length firsts))
      ≡ map (λ row. values_under row side) firsts
  side_values apart =
      numbers_map (λ j. picked (map second_of side) (places_of j numbers))
      (λ row. values_under row side) 0 firsts
      (λ j row at. let e : 0 + j ≡ j = omega arith in
      ap (λ i. picked (map second_of side) (places_of i numbers)) e ∙ values_at j row apart at)

-- pairs of what is made of each item
pub zip-maps : {X : Type 0} (f g : X → Datum) (xs : List X)
    → zip_with pair (map f xs) (map g xs) ≡ map (λ x. pair (f x) (g x)) xs
zip-maps f g [] = refl
zip-maps f g (x ∷ xs) = ap (λ ps. pair (f x) (g x) ∷ ps) (zip-maps f g xs)
