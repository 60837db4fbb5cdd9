-- The laws of rows that are put together under their keys, and of the order of keys, as a reader
-- says them of lists.
use Rattle.std.specs.Prelude.{◌≡◌, ◌↔◌, false, List, [], ◌∷◌, Ok, Err, map}
use Rattle.std.specs.List.{All}
use Rattle.sc_value.specs.Datum.{Datum, truth, pair}
use Rattle.sc_keys.specs.Groups.{distinct}
use Rattle.sc_part.specs.Bounds.{is_same_key}
use Rattle.sc_expr.specs.ExprData.{ExprData}
use Rattle.sc_expr.specs.Heads.{Outcome, first_of, second_of}
use Rattle.sc_lineage.specs.Actions.{folded}
use Rattle.sc_lineage.specs.Keyed.{combined, key_of, leaders, values_under}

-- a row is a pair, as each row of an operation by key is
abbrev pub IsPair : Datum → Type 0
IsPair row = row ≡ pair (first_of row) (second_of row)

-- values put together from the left, the first of them as it stands; none count as false
abbrev pub folded_values : ExprData → List Datum → Outcome
folded_values e [] = Ok (truth false)
folded_values e (v ∷ vs) = folded e v vs

-- an outcome as the second part of a pair
abbrev pub paired_with : Datum → Outcome → Outcome
paired_with first (Ok v) = Ok (pair first v)
paired_with first (Err r) = Err r

-- what a leader of rows stands for: its key, with the left fold of the values under it, in order
abbrev pub put_under : ExprData → List Datum → Datum → Outcome
put_under e rows row = paired_with (first_of row) (folded_values e (values_under row rows))

-- Rows put together under their keys give these rows exactly where their leaders, in order of first
-- appearance, each with the left fold of its values, give them: each of these folds has a value.
abbrev pub CombineLaw : Type 0
CombineLaw =
    (e : ExprData) (rows made : List Datum) → All IsPair rows
    → (combined e rows ≡ Ok made) ↔ (map (put_under e rows) (leaders rows) ≡ map Ok made)

-- the keys of rows, each once, are those of the rows whose key no row before them has, in order
abbrev pub LeaderLaw : Type 0
LeaderLaw = (rows : List Datum) → distinct is_same_key (map key_of rows) ≡ map key_of (leaders rows)
