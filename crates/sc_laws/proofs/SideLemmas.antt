-- Sides of shuffles: what all of them being read says of the streams that they are from.
use Rattle.std.proofs.Common.{◌≡◌, ◌∙◌, ℕ, zero, suc, ◌<◌, false, List, [], ◌∷◌, Option, Some, None, Ok, Err, is_some, length, map, refl, ap, ap₂, sym, arith, true≢false}
use Rattle.std.specs.List.{list_any}
use Rattle.sc_base.specs.Lists.{at_or}
use Rattle.sc_value.specs.Datum.{Datum}
use Rattle.sc_expr.specs.declared.exprs.Raise.{Raise}
use Rattle.sc_lineage.specs.declared.nodes.Meeting.{Meeting}
use Rattle.sc_lineage.specs.declared.streams.Stream.{Stream}
use Rattle.sc_lineage.specs.Keyed.{Side, combined, met}
use Rattle.sc_lineage.specs.NodeData.{ShufflingData, reduce_by_key, group_by_key, sort_by_key, repartition}
use Rattle.sc_lineage.specs.Shuffles.{Dealing, by_hash, bucket_read, map_side, met_stream, of_sides, reduce_side, shuffled_stream, side_of_stream, stream_of_side, unless_ended}
use Rattle.sc_lineage.specs.Streams.{ended_stream, raises}
use Rattle.sc_laws.proofs.StreamLemmas.{AreSilent, none_holds}

-- a side that is read
abbrev pub IsRead : Side → Type 0
IsRead side = (rows : List Datum) × (side ≡ Ok rows)

-- sides all of which are read
abbrev pub AreRead : List Side → Type 0
AreRead sides = (maps : List (List Datum)) × (sides ≡ map Ok maps)

-- what comes of sides raises nowhere: then all of them are read
pub sides_read : (f : List (List Datum) → Side) (sides : List Side)
    → raises (stream_of_side (of_sides f sides)) ≡ false → AreRead sides
sides_read f [] silent = ([], refl)
sides_read f (Ok rows ∷ sides) silent =
    let rest : AreRead sides = sides_read (λ maps. f (rows ∷ maps)) sides silent in
    (rows ∷ rest.0, ap (λ (ss : List Side). Ok rows ∷ ss) rest.1)
sides_read f (Err r ∷ sides) silent = absurd (true≢false silent)

-- what comes of sides that are read
pub of_read : (f : List (List Datum) → Side) (maps : List (List Datum))
    → of_sides f (map Ok maps) ≡ f maps
of_read f [] = refl
of_read f (rows ∷ maps) = of_read (λ more. f (rows ∷ more)) maps

-- a stream whose side is read doesn't raise
end_read : (side : Side) (end : Option Raise) (rows : List Datum)
    → unless_ended side end ≡ Ok rows → is_some end ≡ false
end_read (Ok kept) None rows is = refl
end_read (Ok kept) (Some r) rows is = cc
end_read (Err r) end rows is = cc

pub side_silent : (kind : ShufflingData) (s : Stream) (rows : List Datum)
    → map_side kind s ≡ Ok rows → raises s ≡ false
side_silent (reduce_by_key e) s rows is = end_read (combined e s.rows) s.raise rows is
side_silent group_by_key s rows is = end_read (Ok s.rows) s.raise rows is
side_silent sort_by_key s rows is = end_read (Ok s.rows) s.raise rows is
side_silent repartition s rows is = end_read (Ok s.rows) s.raise rows is

pub sides_silent : (kind : ShufflingData) (streams : List Stream) (maps : List (List Datum))
    → map (map_side kind) streams ≡ map Ok maps → AreSilent streams
sides_silent kind [] maps is = refl
sides_silent kind (s ∷ streams) [] is = cc
sides_silent kind (s ∷ streams) (rows ∷ maps) is =
    let first : map_side kind s ≡ Ok rows = cc in
    let rest : map (map_side kind) streams ≡ map Ok maps = cc in
    none_holds (raises s) (list_any raises streams) (side_silent kind s rows first)
    (sides_silent kind streams maps rest)

-- a stream that doesn't raise is a side that is read
whole_end : (rows : List Datum) (end : Option Raise) → is_some end ≡ false
    → unless_ended (Ok rows) end ≡ Ok rows
whole_end rows None silent = refl
whole_end rows (Some r) silent = absurd (true≢false silent)

pub whole_side : (s : Stream) → raises s ≡ false → side_of_stream s ≡ Ok s.rows
whole_side s silent = whole_end s.rows s.raise silent

-- sides each of which is read
pub read_each : (kind : ShufflingData) (streams : List Stream)
    → ((i : ℕ) → i < length streams → IsRead (map_side kind (at_or streams i (ended_stream None))))
    → AreRead (map (map_side kind) streams)
read_each kind [] each = ([], refl)
read_each kind (s ∷ streams) each =
    let first : IsRead (map_side kind s) = each 0 (omega arith) in
    let rest : AreRead (map (map_side kind) streams) =
    read_each kind streams (λ i below. each (suc i) (omega arith)) in
    (first.0 ∷ rest.0, ap₂ (λ (side : Side) sides. side ∷ sides) first.1 rest.1)

-- the one side of a stream of sides that are read
pub read_at : (kind : ShufflingData) (streams : List Stream) (maps : List (List Datum)) (i : ℕ)
    → map (map_side kind) streams ≡ map Ok maps → i < length streams
    → map_side kind (at_or streams i (ended_stream None)) ≡ Ok (at_or maps i [])
read_at kind [] maps i is within = absurd (omega arith)
read_at kind (s ∷ streams) [] i is within = cc
read_at kind (s ∷ streams) (rows ∷ maps) zero is within = cc
read_at kind (s ∷ streams) (rows ∷ maps) (suc i) is within =
    let rest : map (map_side kind) streams ≡ map Ok maps = cc in
    read_at kind streams maps i rest (omega arith)

-- a shuffle that doesn't raise has read all its sides
pub shuffled_read : (kind : ShufflingData) (dealing : Dealing) (j : ℕ) (streams : List Stream)
    → raises (shuffled_stream kind dealing j streams) ≡ false
    → AreRead (map (map_side kind) streams)
shuffled_read kind dealing j streams silent =
    sides_read (λ maps. reduce_side kind (bucket_read dealing j 0 maps))
    (map (map_side kind) streams) silent

pub shuffled_silent : (kind : ShufflingData) (dealing : Dealing) (j : ℕ) (streams : List Stream)
    → raises (shuffled_stream kind dealing j streams) ≡ false → AreSilent streams
shuffled_silent kind dealing j streams silent =
    let read = shuffled_read kind dealing j streams silent in
    sides_silent kind streams read.0 read.1

-- nor does a meeting
pub met_silent : (kind : Meeting) (n j : ℕ) (left right : List Stream)
    → raises (met_stream kind n j left right) ≡ false → AreSilent left × AreSilent right
met_silent kind n j left right silent =
    let second : List (List Datum) → List (List Datum) → Side = λ lefts rights.
    Ok (met kind (bucket_read (by_hash n) j 0 lefts) (bucket_read (by_hash n) j 0 rights)) in
    let first : List (List Datum) → Side =
    λ lefts. of_sides (second lefts) (map side_of_stream right) in
    let lefts : AreRead (map side_of_stream left) =
    sides_read first (map side_of_stream left) silent in
    let rights : AreRead (map side_of_stream right) =
    sides_read (second lefts.0) (map side_of_stream right)
    (ap (λ (side : Side). raises (stream_of_side side))
    (sym (ap (of_sides first) lefts.1 ∙ of_read first lefts.0)) ∙ silent) in (
      sides_silent repartition left lefts.0 lefts.1,
      sides_silent repartition right rights.0 rights.1,
    )
