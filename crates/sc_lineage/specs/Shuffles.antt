-- What a shuffle gives: the map side of each partition of a parent, the bucket of each row, and
-- what a partition makes of the rows of its bucket. It knows nothing of where they come from.
use Rattle.std.specs.Prelude.{ℕ, suc, ◌+◌, ◌%◌, ◌==◌, List, [], ◌∷◌, ◌++◌, map, Option, Some, None, Ok, Err, if◌then◌else◌}
use Rattle.sc_value.specs.Datum.{Datum}
use Rattle.sc_value.specs.Keys.{KeyData}
use Rattle.sc_hash.specs.Hashes.{bucket_of}
use Rattle.sc_part.specs.Bounds.{range_of}
use Rattle.sc_expr.specs.declared.exprs.Raise.{Raise}
use Rattle.sc_lineage.specs.Keyed.{Side, combined, grouped, in_key_order, key_of, met, side_then}
use Rattle.sc_lineage.specs.NodeData.{ShufflingData, reduce_by_key, group_by_key, sort_by_key, repartition}
use Rattle.sc_lineage.specs.declared.nodes.Meeting.{Meeting}
use Rattle.sc_lineage.specs.declared.streams.Stream.{Stream}
use Rattle.sc_lineage.specs.Streams.{whole_stream, ended_stream}

-- rows, unless something raised behind them
abbrev pub unless_ended : Side → Option Raise → Side
unless_ended (Ok rows) None = Ok rows
unless_ended (Ok rows) (Some r) = Err r
unless_ended (Err r) end = Err r

-- the rows of a stream that doesn't raise
abbrev pub side_of_stream : Stream → Side
side_of_stream s = unless_ended (Ok s.rows) s.raise

-- The map side of a shuffle from the stream of one partition: `reduceByKey` puts the values under
-- each key together already there, all others pass the rows on. The rows are taken one after
-- another, so a raise of theirs comes before the one behind them.
abbrev pub map_side : ShufflingData → Stream → Side
map_side (reduce_by_key e) s = unless_ended (combined e s.rows) s.raise
map_side group_by_key s = side_of_stream s
map_side sort_by_key s = side_of_stream s
map_side repartition s = side_of_stream s

-- how rows are dealt out among buckets
pub data Dealing : Type 0 where
  -- by the hash of the key, among so many
  by_hash : ℕ → Dealing
  -- by the range of the key between bounds
  by_range : List KeyData → Dealing
  -- in turn among so many: the first of partition m goes to bucket m
  in_turn : ℕ → Dealing

-- how a shuffle deals rows out, by its number of partitions and its bounds
abbrev pub dealing_of : ShufflingData → ℕ → List KeyData → Dealing
dealing_of (reduce_by_key e) n bounds = by_hash n
dealing_of group_by_key n bounds = by_hash n
dealing_of sort_by_key n bounds = by_range bounds
dealing_of repartition n bounds = in_turn n

-- the bucket of the row at position k of map partition m
abbrev pub bucket_in : Dealing → ℕ → ℕ → Datum → ℕ
bucket_in (by_hash n) m k row = bucket_of n (key_of row)
bucket_in (by_range bounds) m k row = range_of bounds (key_of row)
bucket_in (in_turn n) m k row = (m + k) % n

-- the rows of map partition m whose bucket is j, where the first of them is at position k
abbrev pub rows_dealt : Dealing → ℕ → ℕ → ℕ → List Datum → List Datum
rows_dealt dealing j m k [] = []
rows_dealt dealing j m k (row ∷ rows) =
    if bucket_in dealing m k row == j then row ∷ rows_dealt dealing j m (suc k) rows
    else rows_dealt dealing j m (suc k) rows

-- the rows whose bucket is j, over the map partitions in order, of which the first is number m
abbrev pub bucket_read : Dealing → ℕ → ℕ → List (List Datum) → List Datum
bucket_read dealing j m [] = []
bucket_read dealing j m (rows ∷ maps) =
    rows_dealt dealing j m 0 rows ++ bucket_read dealing j (suc m) maps

-- what the rows of a bucket give, where no side raises; else the first raise
abbrev pub of_sides : (List (List Datum) → Side) → List Side → Side
of_sides f [] = f []
of_sides f (side ∷ sides) = side_then (λ rows. of_sides (λ maps. f (rows ∷ maps)) sides) side

-- what a shuffle makes of the rows of a bucket, in the order of the map partitions
abbrev pub reduce_side : ShufflingData → List Datum → Side
reduce_side (reduce_by_key e) rows = combined e rows
reduce_side group_by_key rows = Ok (grouped rows)
reduce_side sort_by_key rows = Ok (in_key_order rows)
reduce_side repartition rows = Ok rows

-- rows as a stream, of which a raise leaves no row
abbrev pub stream_of_side : Side → Stream
stream_of_side (Ok rows) = whole_stream rows
stream_of_side (Err r) = ended_stream (Some r)

-- Partition j of a shuffle, from the streams of the map partitions in order.
abbrev pub shuffled_stream : ShufflingData → Dealing → ℕ → List Stream → Stream
shuffled_stream kind dealing j streams =
    stream_of_side
    (of_sides (λ maps. reduce_side kind (bucket_read dealing j 0 maps))
    (map (map_side kind) streams))

-- Partition j of n where two sides meet, from the streams of the map partitions of both.
abbrev pub met_stream : Meeting → ℕ → ℕ → List Stream → List Stream → Stream
met_stream kind n j left right =
    stream_of_side
    (of_sides (λ lefts. of_sides (λ rights.
    Ok (met kind (bucket_read (by_hash n) j 0 lefts) (bucket_read (by_hash n) j 0 rights)))
    (map side_of_stream right))
    (map side_of_stream left))
