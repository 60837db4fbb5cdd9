-- The groups of rows under one key, in order of first appearance.
use Rattle.std.specs.Prelude.{◌≡◌, ◌<◌, ◌==◌, ◌++◌, ℕ, suc, List, [], ◌∷◌, length, map, if◌then◌else◌}
use Rattle.std.specs.List.{All, flat_map}
use Rattle.sc_expr.specs.Heads.{first_of}
use Rattle.sc_keys.specs.Groups.{place_in}
use Rattle.sc_keys.specs.Keyed.{keys_in}
use Rattle.sc_lineage.specs.Keyed.{key_of, leaders, values_under}
use Rattle.sc_part.specs.Bounds.{is_same_key}
use Rattle.sc_value.specs.Datum.{Datum, pair}
use Rattle.sc_value.specs.Keys.{KeyData}
use Rattle.sc_value.specs.Picked.{ArePlaces, picked}
use Rattle.sc_combine.specs.declared.grouping.Grouping.{Grouping}
use Rattle.sc_combine.specs.declared.meeting.Sides.{Sides}

-- the places at which a number stands first, where the numbers below `known` stood before, and the
-- first number is at place `i`
abbrev pub firsts_from : ℕ → ℕ → List ℕ → List ℕ
firsts_from known i [] = []
firsts_from known i (n ∷ ns) =
    if n == known then i ∷ firsts_from (suc known) (suc i) ns else firsts_from known (suc i) ns

-- the number of each row's group: the place of its key among those of the leaders
abbrev pub group_numbers : List Datum → List Datum → List ℕ
group_numbers all rows =
    map (λ row. place_in is_same_key (map key_of (leaders all)) (key_of row)) rows

-- rows have these groups
pub record IsGrouping (rows : List Datum) (g : Grouping) : Type 0 where
  pub numbers : g.numbers.items ≡ group_numbers rows rows
  pub below : All (λ n. n < g.count) g.numbers.items
  pub count : g.count ≡ length (leaders rows)
  pub keys : g.keys ≡ map first_of (leaders rows)

-- rows of which each has one thing as its key and its value
abbrev pub twins : List Datum → List Datum
twins firsts = map (λ first. pair first first) firsts

-- what stands first in the groups of rows, by what stands as key in each
abbrev pub leads : List Datum → List Datum
leads firsts = map first_of (leaders (twins firsts))

-- What stands first in the groups of several runs, and for each row the place of one that has the
-- same key: so both have the same place among any keys.
pub record AreLed (runs : List (List Datum)) (firsts : List Datum) (numbers : List ℕ) : Type 0 where
  pub led : firsts ≡ flat_map leads runs
  pub places : ArePlaces firsts numbers
  pub same : (keys : List KeyData)
      → map (place_in is_same_key keys) (keys_in (picked firsts numbers))
      ≡ map (place_in is_same_key keys) (keys_in (flat_map (λ run. run) runs))

-- two sides have these keys, each with the values of both
pub record AreSides (lefts rights : List Datum) (s : Sides) : Type 0 where
  pub keys : s.keys ≡ map first_of (leaders (lefts ++ rights))
  pub left : s.left ≡ map (λ row. values_under row lefts) (leaders (lefts ++ rights))
  pub right : s.right ≡ map (λ row. values_under row rights) (leaders (lefts ++ rights))
