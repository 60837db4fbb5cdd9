-- What a partition of a shuffle reads of a parent.
use Rattle.std.specs.Prelude.{ℕ, ◌≡◌, List, [], ◌∷◌, Option, Some, None, Result, Ok, Err, map}
use Rattle.std.specs.List.{flat_map}
use Rattle.sc_base.specs.declared.refusals.OrMemory.{OrMemory}
use Rattle.sc_base.specs.declared.refusals.OrMemory.TheVariants.{Fault, OutOfMemory}
use Rattle.sc_value.specs.Datum.{Datum}
use Rattle.sc_expr.specs.declared.exprs.Raise.{Raise}
use Rattle.sc_lineage.specs.Dependencies.{Dependency, one_to_one, range_behind, grouped, shuffled, PlaceData, dependencies_by, place, places_read}
use Rattle.sc_lineage.specs.Meaning.{known_of, local_stream}
use Rattle.sc_lineage.specs.NodeData.{ShufflingData}
use Rattle.sc_lineage.specs.ScriptData.{WorkData}
use Rattle.sc_lineage.specs.Shuffles.{Dealing, bucket_read, by_hash, map_side}
use Rattle.sc_lineage.specs.Streams.{ended_stream, whole_stream}
use Rattle.sc_lineage.specs.declared.streams.Stream.{Stream}
use Rattle.sc_compute.specs.Stages.{AreDealt, Opens, local_count, node_at}
use Rattle.sc_compute.specs.declared.stages.Input.{Input}
use Rattle.sc_compute.specs.declared.stages.Input.TheVariants as inputs
use Rattle.sc_compute.specs.declared.shuffles.ReadFrom.{ReadFrom}
use Rattle.sc_compute.specs.declared.shuffles.ReadFrom.TheVariants.{Own, Dealt}

-- the partitions that are read by a dependency as they are; what goes through a shuffle isn't
abbrev pub read_directly : (ℕ → ℕ) → ℕ → Dependency → List PlaceData
read_directly counts p (one_to_one parent) = places_read counts p (one_to_one parent)
read_directly counts p (range_behind parent others) =
    places_read counts p (range_behind parent others)
read_directly counts p (grouped parent n) = places_read counts p (grouped parent n)
read_directly counts p (shuffled parent by) = []

-- the partitions that partition p of a node reads as they are, in order
abbrev pub direct_reads : WorkData → ℕ → ℕ → List PlaceData
direct_reads work k p =
    flat_map (read_directly (local_count work) p) (dependencies_by (known_of work) (node_at work k))

-- the partition of a parent that a partition of a shuffle reads as it is: that of the same number,
-- where the rows already lie as the shuffle asks
abbrev pub own_place : Input → ℕ → ℕ → List PlaceData
own_place inputs.Own parent p = place parent p ∷ []
own_place (inputs.Dealt dealt) parent p = []

-- the same by the streams that were read
abbrev pub own_stream : WorkData → Input → ℕ → ℕ → List Stream
own_stream work input parent p =
    map (λ at. local_stream work at.node at.partition) (own_place input parent p)

-- What a partition reads of a parent, by these streams of the parent: its own partition alone, or
-- what went into the shuffle from each.
abbrev pub IsReadFrom : ShufflingData → Dealing → ℕ → ReadFrom → List Stream → Type 0
IsReadFrom kind dealing n (Own s) streams = (streams ≡ s.now ∷ []) × (dealing ≡ by_hash n)
IsReadFrom kind dealing n (Dealt dealt) streams =
    (maps : List (List Datum)) × Opens (map (map_side kind) streams) (Ok maps)
    × AreDealt dealing 0 maps dealt.now

-- where an input is read as it is, there is a stream
abbrev pub HasOwn : Input → Option Stream → Type 0
HasOwn inputs.Own (Some s) = Unit {0}
HasOwn inputs.Own None = ⊥
HasOwn (inputs.Dealt dealt) own = Unit {0}

-- what is read through an input
abbrev pub ReadsFrom : Input → Option Stream → ReadFrom → Type 0
ReadsFrom inputs.Own own (Own s) = own ≡ Some s.now
ReadsFrom (inputs.Dealt dealt) own (Dealt lent) = lent.now ≡ dealt.items
ReadsFrom input own from = ⊥

-- what was read of bucket p: its rows in the order of the map partitions, or the first raise of any
abbrev pub ReadsBucket :
    ShufflingData → Dealing → ℕ → List Stream
    → Result (List Datum) (OrMemory Raise) → Type 0
ReadsBucket kind dealing p streams (Ok rows) =
    (maps : List (List Datum)) × Opens (map (map_side kind) streams) (Ok maps)
    × (rows ≡ bucket_read dealing p 0 maps)
ReadsBucket kind dealing p streams (Err (Fault r)) = Opens (map (map_side kind) streams) (Err r)
ReadsBucket kind dealing p streams (Err OutOfMemory) = Unit {0}

-- rows, or a raise, are this stream, of which a raise leaves no row
abbrev pub GivesSide : Result (List Datum) (OrMemory Raise) → Stream → Type 0
GivesSide (Ok rows) stream = stream ≡ whole_stream rows
GivesSide (Err (Fault r)) stream = stream ≡ ended_stream (Some r)
GivesSide (Err OutOfMemory) stream = Unit {0}
