-- Keys that are kept: what holds of the keys of rows holds of those of what operations by key, and
-- operations that keep each row's key, make of them.
use Rattle.std.proofs.Common.{◌≡◌, Bool, true, false, List, [], ◌∷◌, ◌++◌, Option, Some, None, Ok, Err, map, not, if◌then◌else◌, ℕ}
use Rattle.std.specs.List.{AllByRecursion}
use Rattle.sc_value.specs.Datum.{Datum, pair}
use Rattle.sc_value.specs.Keys.{KeyData}
use Rattle.sc_expr.specs.ExprData.{ExprData}
use Rattle.sc_expr.specs.Heads.{Outcome, truth_in, items_in, first_of, second_of, list_value}
use Rattle.sc_expr.specs.Meaning.{two_values, value_of_expr}
use Rattle.sc_expr.specs.declared.exprs.Raise.{Raise}
use Rattle.sc_lineage.specs.declared.nodes.Elementwise.{Elementwise}
use Rattle.sc_lineage.specs.declared.nodes.Elementwise.TheVariants as by
use Rattle.sc_lineage.specs.declared.nodes.Meeting.{Meeting}
use Rattle.sc_lineage.specs.declared.nodes.Meeting.TheVariants as meetings
use Rattle.sc_lineage.specs.declared.streams.Stream.{Stream}
use Rattle.sc_lineage.specs.Keyed.{Side, combined, combined_behind, gathered_beside, grouped, key_of, leaders, met, pairs_beside, put_together, same_key, side_then, values_under, with_value}
use Rattle.sc_lineage.specs.Narrow.{given_of}
use Rattle.sc_lineage.specs.NodeData.{ShufflingData, reduce_by_key, group_by_key, sort_by_key, repartition}
use Rattle.sc_lineage.specs.Partitioners.{PartitionerData, hash_partitioner, partitioner_of_each, partitioner_of_shuffle}
use Rattle.sc_lineage.specs.Shuffles.{map_side, of_sides, reduce_side, stream_of_side, unless_ended}
use Rattle.sc_lineage.specs.Streams.{each_gives, with_outcome}
use Rattle.sc_laws.proofs.EachLemmas.{each_any, each_append, each_filter, each_flat_map, each_if, each_map}

-- Something that may hold of a key.
module _ (B : KeyData → Type 0) where
  abbrev IsKeyed : Datum → Type 0
  IsKeyed row = B (key_of row)

  -- it holds of the keys of rows
  abbrev pub AreKeyed : List Datum → Type 0
  AreKeyed rows = AllByRecursion IsKeyed rows

  -- and of those of a side, where it is read
  abbrev pub SideIsKeyed : Side → Type 0
  SideIsKeyed (Ok rows) = AreKeyed rows
  SideIsKeyed (Err r) = Unit {0}

  then_keyed : (f : List Datum → Side) (side : Side) → SideIsKeyed side
      → ((rows : List Datum) → AreKeyed rows → SideIsKeyed (f rows))
      → SideIsKeyed (side_then f side)
  then_keyed f (Ok rows) keyed next = next rows keyed
  then_keyed f (Err r) keyed next = tt

  -- rows put together under their keys
  with_value_keyed : (row : Datum) (rows : List Datum) (outcome : Outcome) → IsKeyed row
      → AreKeyed rows → SideIsKeyed (with_value row rows outcome)
  with_value_keyed row rows (Ok v) first rest = (first, rest)
  with_value_keyed row rows (Err r) first rest = tt

  put_keyed_by : (b : Bool) (first : Datum) (kept : List Datum) (outcome : Outcome) (rest : Side)
      → IsKeyed first → AreKeyed kept → SideIsKeyed rest
      → SideIsKeyed (if b then with_value first kept outcome
      else side_then (λ more. Ok (first ∷ more)) rest)
  put_keyed_by true first kept outcome rest own keyed behind =
      with_value_keyed first kept outcome own keyed
  put_keyed_by false first kept outcome rest own keyed behind =
      then_keyed (λ more. Ok (first ∷ more)) rest behind (λ more have. (own, have))

  put_keyed : (e : ExprData) (kept : List Datum) (row : Datum) → AreKeyed kept → IsKeyed row
      → SideIsKeyed (put_together e kept row)
  put_keyed e [] row keyed own = (own, tt)
  put_keyed e (first ∷ kept) row keyed own =
      put_keyed_by (same_key first row) first kept
      (value_of_expr (two_values (second_of first) (second_of row)) e) (put_together e kept row)
      keyed.0 keyed.1 (put_keyed e kept row keyed.1 own)

  combined_keyed : (e : ExprData) (kept rows : List Datum) → AreKeyed kept → AreKeyed rows
      → SideIsKeyed (combined_behind e kept rows)
  combined_keyed e kept [] before keyed = before
  combined_keyed e kept (row ∷ rows) before keyed =
      then_keyed (λ more. combined_behind e more rows) (put_together e kept row)
      (put_keyed e kept row before keyed.0)
      (λ more have. combined_keyed e more rows have keyed.1)

  -- rows gathered under their keys
  leaders_keyed : (rows : List Datum) → AreKeyed rows → AreKeyed (leaders rows)
  leaders_keyed [] keyed = tt
  leaders_keyed (row ∷ rows) keyed = (
    keyed.0,
    each_filter IsKeyed (λ other. not (same_key row other)) (leaders rows)
        (leaders_keyed rows keyed.1),
  )

  grouped_keyed : (rows : List Datum) → AreKeyed rows → AreKeyed (grouped rows)
  grouped_keyed rows keyed =
      each_map IsKeyed IsKeyed
      (λ row. pair (first_of row) (list_value (values_under row rows))) (leaders rows)
      (λ row own. own) (leaders_keyed rows keyed)

  pairs_keyed : (left right : List Datum) (row : Datum) → IsKeyed row
      → AreKeyed (pairs_beside left right row)
  pairs_keyed left right row own =
      let Any : Datum → Type 0 = λ v. Unit {0} in
      let vs = values_under row left in
      let ws = values_under row right in
      each_flat_map Any IsKeyed (λ v. map (λ w. pair (first_of row) (pair v w)) ws) vs
      (λ v none. each_map Any IsKeyed (λ w. pair (first_of row) (pair v w)) ws (λ w no. own)
      (each_any Any ws (λ w. tt)))
      (each_any Any vs (λ v. tt))

  pub met_keyed : (kind : Meeting) (left right : List Datum) → AreKeyed left → AreKeyed right
      → AreKeyed (met kind left right)
  met_keyed meetings.Cogroup left right first second =
      each_map IsKeyed IsKeyed (gathered_beside left right) (leaders (left ++ right))
      (λ row own. own)
      (leaders_keyed (left ++ right) (each_append IsKeyed left right first second))
  met_keyed meetings.Join left right first second =
      each_flat_map IsKeyed IsKeyed (pairs_beside left right) (leaders (left ++ right))
      (pairs_keyed left right)
      (leaders_keyed (left ++ right) (each_append IsKeyed left right first second))

  -- sides of shuffles
  ended_keyed : (side : Side) (end : Option Raise) → SideIsKeyed side
      → SideIsKeyed (unless_ended side end)
  ended_keyed (Ok rows) None keyed = keyed
  ended_keyed (Ok rows) (Some r) keyed = tt
  ended_keyed (Err r) end keyed = tt

  pub map_side_keyed : (kind : ShufflingData) (s : Stream) → AreKeyed s.rows
      → SideIsKeyed (map_side kind s)
  map_side_keyed (reduce_by_key e) s keyed =
      ended_keyed (combined e s.rows) s.raise (combined_keyed e [] s.rows tt keyed)
  map_side_keyed group_by_key s keyed = ended_keyed (Ok s.rows) s.raise keyed
  map_side_keyed sort_by_key s keyed = ended_keyed (Ok s.rows) s.raise keyed
  map_side_keyed repartition s keyed = ended_keyed (Ok s.rows) s.raise keyed

  pub reduce_side_keyed : (kind : ShufflingData) (m n : ℕ) (rows : List Datum)
      → partitioner_of_shuffle kind m ≡ hash_partitioner n → AreKeyed rows
      → SideIsKeyed (reduce_side kind rows)
  reduce_side_keyed (reduce_by_key e) m n rows hash keyed = combined_keyed e [] rows tt keyed
  reduce_side_keyed group_by_key m n rows hash keyed = grouped_keyed rows keyed
  reduce_side_keyed sort_by_key m n rows hash keyed = cc
  reduce_side_keyed repartition m n rows hash keyed = keyed

  pub of_sides_keyed : (f : List (List Datum) → Side) (sides : List Side)
      → ((maps : List (List Datum)) → SideIsKeyed (f maps)) → SideIsKeyed (of_sides f sides)
  of_sides_keyed f [] all = all []
  of_sides_keyed f (Ok rows ∷ sides) all =
      of_sides_keyed (λ maps. f (rows ∷ maps)) sides (λ maps. all (rows ∷ maps))
  of_sides_keyed f (Err r ∷ sides) all = tt

  pub stream_keyed : (side : Side) → SideIsKeyed side → AreKeyed (stream_of_side side).rows
  stream_keyed (Ok rows) keyed = keyed
  stream_keyed (Err r) keyed = tt

  -- operations row by row
  pub given_keyed : (kind : Elementwise) (lie : PartitionerData) (n : ℕ)
      → partitioner_of_each kind lie ≡ hash_partitioner n → (d v : Datum) → IsKeyed d
      → AreKeyed (given_of kind d v)
  given_keyed by.Map lie n hash d v own = cc
  given_keyed by.Filter lie n hash d v own = each_if IsKeyed (truth_in v) d [] (λ e. own) tt
  given_keyed by.FlatMap lie n hash d v own = cc
  given_keyed by.MapValues lie n hash d v own = (own, tt)
  given_keyed by.FlatMapValues lie n hash d v own =
      let Any : Datum → Type 0 = λ w. Unit {0} in
      each_map Any IsKeyed (pair (first_of d)) (items_in v) (λ w none. own)
      (each_any Any (items_in v) (λ w. tt))

  outcome_keyed : (given : Datum → List Datum) (outcome : Outcome) (rest : Stream)
      → ((v : Datum) → AreKeyed (given v)) → AreKeyed rest.rows
      → AreKeyed (with_outcome given outcome rest).rows
  outcome_keyed given (Ok v) rest each keyed =
      each_append IsKeyed (given v) rest.rows (each v) keyed
  outcome_keyed given (Err r) rest each keyed = tt

  pub each_keyed : (given : Datum → Datum → List Datum) (f : Datum → Outcome) (rows : List Datum)
      (end : Option Raise) → ((d v : Datum) → IsKeyed d → AreKeyed (given d v)) → AreKeyed rows
      → AreKeyed (each_gives given f rows end).rows
  each_keyed given f [] end keeps keyed = tt
  each_keyed given f (d ∷ rows) end keeps keyed =
      outcome_keyed (given d) (f d) (each_gives given f rows end) (λ v. keeps d v keyed.0)
      (each_keyed given f rows end keeps keyed.1)
