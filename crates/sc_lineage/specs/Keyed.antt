-- Rows under keys: what shuffles do with the rows of a partition.
use Rattle.std.specs.Prelude.{Bool, List, [], ◌∷◌, ◌++◌, filter, map, not, Result, Ok, Err, if◌then◌else◌}
use Rattle.std.specs.List.{flat_map}
use Rattle.sc_value.specs.Datum.{Datum, pair}
use Rattle.sc_value.specs.Keys.{KeyData}
use Rattle.sc_keys.specs.Keyed.{key_in}
use Rattle.sc_part.specs.Bounds.{is_before, is_same_key}
use Rattle.sc_part.specs.Sorts.{sorted}
use Rattle.sc_expr.specs.ExprData.{ExprData}
use Rattle.sc_expr.specs.Heads.{Outcome, first_of, second_of, list_value}
use Rattle.sc_expr.specs.Meaning.{two_values, value_of_expr}
use Rattle.sc_expr.specs.declared.exprs.Raise.{Raise}
use Rattle.sc_lineage.specs.declared.nodes.Meeting.{Meeting}
use Rattle.sc_lineage.specs.declared.nodes.Meeting.TheVariants as meetings

-- the key of a row, which is a pair
abbrev pub key_of : Datum → KeyData
key_of row = key_in (first_of row)

-- whether two rows stand under the same key
abbrev pub same_key : Datum → Datum → Bool
same_key a b = is_same_key (key_of a) (key_of b)

-- the rows whose key no row before them has: each key once, in order of first appearance
abbrev pub leaders : List Datum → List Datum
leaders [] = []
leaders (row ∷ rows) = row ∷ filter (λ other. not (same_key row other)) (leaders rows)

-- the values of those rows that stand under the key of a row, in order
abbrev pub values_under : Datum → List Datum → List Datum
values_under row rows = map second_of (filter (same_key row) rows)

-- each key once, in order of first appearance, with its values in order
abbrev pub grouped : List Datum → List Datum
grouped rows =
    map (λ row. pair (first_of row) (list_value (values_under row rows))) (leaders rows)

-- the rows in the order of their keys; those under one key stay in order
abbrev pub in_key_order : List Datum → List Datum
in_key_order = sorted (λ a b. is_before (key_of a) (key_of b))

-- the values of both sides beside the key of a row, gathered
abbrev pub gathered_beside : List Datum → List Datum → Datum → Datum
gathered_beside left right row =
    pair (first_of row)
    (pair (list_value (values_under row left)) (list_value (values_under row right)))

-- each value of the left side with each of the right, beside the key of a row
abbrev pub pairs_beside : List Datum → List Datum → Datum → List Datum
pairs_beside left right row =
    flat_map (λ v. map (λ w. pair (first_of row) (pair v w)) (values_under row right))
    (values_under row left)

-- what the rows of two sides give: over the keys of the left in order of first appearance, and then
-- over the new ones of the right
abbrev pub met : Meeting → List Datum → List Datum → List Datum
met meetings.Cogroup left right = map (gathered_beside left right) (leaders (left ++ right))
met meetings.Join left right = flat_map (pairs_beside left right) (leaders (left ++ right))

-- rows, or the raise that ended them
abbrev pub Side : Type 0
Side = Result (List Datum) Raise

-- what goes on with rows, where nothing raised
abbrev pub side_then : (List Datum → Side) → Side → Side
side_then f (Ok rows) = f rows
side_then f (Err r) = Err r

-- a row with another value, in front of others, unless the value raises
abbrev pub with_value : Datum → List Datum → Outcome → Side
with_value row rows (Ok v) = Ok (pair (first_of row) v ∷ rows)
with_value row rows (Err r) = Err r

-- One row more: its value is put together with the one that stands under its key, by an expression
-- over the two; under a new key it stands behind the others.
abbrev pub put_together : ExprData → List Datum → Datum → Side
put_together e [] row = Ok (row ∷ [])
put_together e (kept ∷ rows) row =
    if same_key kept row
    then with_value kept rows (value_of_expr (two_values (second_of kept) (second_of row)) e)
    else side_then (λ more. Ok (kept ∷ more)) (put_together e rows row)

-- rows put together one after another, behind those that were; the first raise ends it
abbrev pub combined_behind : ExprData → List Datum → List Datum → Side
combined_behind e kept [] = Ok kept
combined_behind e kept (row ∷ rows) =
    side_then (λ more. combined_behind e more rows) (put_together e kept row)

-- each key once, in order of first appearance, with its values put together from the left
abbrev pub combined : ExprData → List Datum → Side
combined e rows = combined_behind e [] rows
