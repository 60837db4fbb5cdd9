-- What the rows of two sides give.
use Rattle.std.proofs.Common.{◌≡◌, ◌∙◌, ℕ, List, [], ◌∷◌, ◌++◌, length, map, take, drop, refl, ap, ap₂, sym}
use Rattle.std.proofs.lemmas.List.{length-map, map-append}
use Rattle.std.specs.List.{flat_map}
use Rattle.sc_columns.specs.Columns.{zip_with}
use Rattle.sc_expr.specs.Heads.{first_of, list_value}
use Rattle.sc_keys.specs.Groups.{place_in}
use Rattle.sc_lineage.specs.Keyed.{gathered_beside, key_of, leaders, pairs_beside, values_under}
use Rattle.sc_part.specs.Bounds.{is_same_key}
use Rattle.sc_value.specs.Datum.{Datum, pair}
use Rattle.sc_combine.specs.Crossings.{crossed, crossed_beside}
use Rattle.sc_combine.specs.Groupings.{AreSides, group_numbers}
use Rattle.sc_combine.specs.declared.meeting.Sides.{Sides}
use Rattle.sc_combine.proofs.DealLemmas.{map-twice}
use Rattle.sc_combine.proofs.SideLemmas.{zip-maps}

take_mapped : (h : Datum → ℕ) (ls rs : List Datum) → take (length ls) (map h (ls ++ rs)) ≡ map h ls
take_mapped h [] rs = refl
take_mapped h (l ∷ ls) rs = ap (λ ns. h l ∷ ns) (take_mapped h ls rs)

drop_mapped : (h : Datum → ℕ) (ls rs : List Datum) → drop (length ls) (map h (ls ++ rs)) ≡ map h rs
drop_mapped h [] rs = refl
drop_mapped h (l ∷ ls) rs = drop_mapped h ls rs

module _ (ls rs : List Datum) (numbers : List ℕ) (few : ℕ)
    (are : numbers ≡ group_numbers (ls ++ rs) (ls ++ rs)) (count : few ≡ length ls) where
  abbrev h : Datum → ℕ
  h row = place_in is_same_key (map key_of (leaders (ls ++ rs))) (key_of row)

  -- the numbers of the rows of each side
  pub left_numbers : take few numbers ≡ group_numbers (ls ++ rs) ls
  left_numbers = ap₂ take count are ∙ take_mapped h ls rs

  pub right_numbers : drop few numbers ≡ group_numbers (ls ++ rs) rs
  right_numbers = ap₂ drop count are ∙ drop_mapped h ls rs

lists_of : (rows side : List Datum) (values : List (List Datum)) (lists : List Datum)
    → values ≡ map (λ row. values_under row rows) side → lists ≡ map list_value values
    → lists ≡ map (λ row. list_value (values_under row rows)) side
lists_of rows side values lists are is =
    is ∙ ap (map list_value) are ∙ map-twice (λ row. values_under row rows) list_value side

-- each key with the values of both sides, gathered
pub gathered_is : (ls rs : List Datum) (s : Sides) (first second : List Datum) → AreSides ls rs s
    → first ≡ map list_value s.left → second ≡ map list_value s.right
    → zip_with pair s.keys (zip_with pair first second)
    ≡ map (gathered_beside ls rs) (leaders (ls ++ rs))
gathered_is ls rs s first second sides a b =
    let all = leaders (ls ++ rs) in
    let f = λ (row : Datum). list_value (values_under row ls) in
    let g = λ (row : Datum). list_value (values_under row rs) in
    ap₂ (zip_with pair) sides.keys
    (ap₂ (zip_with pair) (lists_of ls all s.left first sides.left a)
    (lists_of rs all s.right second sides.right b)
    ∙ zip-maps f g all)
    ∙ zip-maps first_of (λ row. pair (f row) (g row)) all

crossed-maps : (f : Datum → Datum) (g h : Datum → List Datum) (xs : List Datum)
    → crossed (map f xs) (map g xs) (map h xs)
    ≡ flat_map (λ x. crossed_beside (f x) (g x) (h x)) xs
crossed-maps f g h [] = refl
crossed-maps f g h (x ∷ xs) =
    ap (λ r. crossed_beside (f x) (g x) (h x) ++ r) (crossed-maps f g h xs)

-- each value of the left side with each of the right
pub crossed_is : (ls rs : List Datum) (s : Sides) → AreSides ls rs s
    → crossed s.keys s.left s.right ≡ flat_map (pairs_beside ls rs) (leaders (ls ++ rs))
crossed_is ls rs s sides =
    let all = leaders (ls ++ rs) in
    ap (λ ks. crossed ks s.left s.right) sides.keys
    ∙ ap₂ (crossed (map first_of all)) sides.left sides.right
    ∙ crossed-maps first_of (λ row. values_under row ls) (λ row. values_under row rs) all

-- each side has values for each key
pub left_level : (ls rs : List Datum) (s : Sides) → AreSides ls rs s → length s.left ≡ length s.keys
left_level ls rs s sides =
    let all = leaders (ls ++ rs) in
    ap length sides.left ∙ length-map all (λ row. values_under row ls)
    ∙ sym (ap length sides.keys ∙ length-map all first_of)

pub right_level : (ls rs : List Datum) (s : Sides) → AreSides ls rs s
    → length s.right ≡ length s.keys
right_level ls rs s sides =
    let all = leaders (ls ++ rs) in
    ap length sides.right ∙ length-map all (λ row. values_under row rs)
    ∙ sym (ap length sides.keys ∙ length-map all first_of)

-- the first parts of the rows of both sides
pub both_firsts : (ls rs first second firsts : List Datum) → first ≡ map first_of ls
    → second ≡ map first_of rs → firsts ≡ first ++ second → firsts ≡ map first_of (ls ++ rs)
both_firsts ls rs first second firsts a b is =
    is ∙ ap₂ (λ x y. x ++ y) a b ∙ sym (map-append first_of ls rs)
