-- A shuffle of rows that lie by the hash already, and a meeting of such: a partition gives the same
-- from all partitions and from that of its number alone.
use Rattle.std.proofs.Common.{◌≡◌, ◌∙◌, ℕ, ◌+◌, ◌<◌, Bool, true, false, if◌then◌else◌, List, [], ◌∷◌, None, Ok, length, map, refl, ap, ap₂, sym, subst, arith}
use Rattle.std.specs.List.{list_any}
use Rattle.sc_base.specs.Lists.{at_or}
use Rattle.sc_value.specs.Datum.{Datum}
use Rattle.sc_lineage.specs.declared.nodes.Meeting.{Meeting}
use Rattle.sc_lineage.specs.declared.streams.Stream.{Stream}
use Rattle.sc_lineage.specs.Keyed.{Side, met}
use Rattle.sc_lineage.specs.NodeData.{ShufflingData, repartition}
use Rattle.sc_lineage.specs.Shuffles.{by_hash, bucket_read, map_side, met_stream, of_sides, reduce_side, shuffled_stream, side_of_stream, stream_of_side}
use Rattle.sc_lineage.specs.Streams.{ended_stream, raises, whole_stream}
use Rattle.sc_lineage.proofs.PlaceLemmas.{at_or-map_any}
use Rattle.sc_laws.proofs.BucketLemmas.{AreParted, HasBucket, read_same, sides_parted}
use Rattle.sc_laws.proofs.KeyLemmas.{AreKeyed}
use Rattle.sc_laws.proofs.PlacedLemmas.{Lie}
use Rattle.sc_laws.proofs.SideLemmas.{of_read, read_at, whole_side}
use Rattle.sc_laws.proofs.StreamLemmas.{AreSilent, neither, none_holds, silent_at}

-- the stream of one partition alone, or those of all
abbrev pub own_or_all : Bool → ℕ → List Stream → List Stream
own_or_all own p streams = if own then at_or streams p (ended_stream None) ∷ [] else streams

-- a shuffle all of whose sides are read
pub shuffle_skipped : (kind : ShufflingData) (n j : ℕ) (streams : List Stream)
    (maps : List (List Datum)) → Lie n streams → j < length streams
    → map (map_side kind) streams ≡ map Ok maps
    → shuffled_stream kind (by_hash n) j (own_or_all true j streams)
    ≡ shuffled_stream kind (by_hash n) j streams
shuffle_skipped kind n j streams maps lie within read =
    let f : List (List Datum) → Side =
    λ all. reduce_side kind (bucket_read (by_hash n) j 0 all) in
    let parted : AreParted n 0 maps = sides_parted kind n 0 streams maps
    (λ i. let number : i ≡ 0 + i = omega arith in
    subst (λ q. AreKeyed (HasBucket n q) (at_or streams i (ended_stream None)).rows) number
    (lie i))
    read in
    ap (λ (side : Side). stream_of_side (of_sides f (side ∷ [])))
    (read_at kind streams maps j read within)
    ∙ ap (λ (rows : List Datum). stream_of_side (reduce_side kind rows)) (read_same n j maps parted)
    ∙ ap stream_of_side (sym (ap (of_sides f) read ∙ of_read f maps))

-- the rows of streams that don't raise
abbrev rows_of : List Stream → List (List Datum)
rows_of streams = map (λ s. s.rows) streams

whole_sides : (streams : List Stream) → AreSilent streams
    → map side_of_stream streams ≡ map Ok (rows_of streams)
whole_sides [] silent = refl
whole_sides (s ∷ streams) silent =
    let both = neither (raises s) (list_any raises streams) silent in
    ap₂ (λ (side : Side) sides. side ∷ sides) (whole_side s both.0) (whole_sides streams both.1)

-- a meeting of streams that don't raise
met_whole : (kind : Meeting) (n j : ℕ) (left right : List Stream) → AreSilent left
    → AreSilent right → met_stream kind n j left right
    ≡ whole_stream (met kind (bucket_read (by_hash n) j 0 (rows_of left))
    (bucket_read (by_hash n) j 0 (rows_of right)))
met_whole kind n j left right quiet silent =
    let second : List (List Datum) → List (List Datum) → Side = λ lefts rights.
    Ok (met kind (bucket_read (by_hash n) j 0 lefts) (bucket_read (by_hash n) j 0 rights)) in
    let first : List (List Datum) → Side =
    λ lefts. of_sides (second lefts) (map side_of_stream right) in
    ap stream_of_side
    (ap (of_sides first) (whole_sides left quiet) ∙ of_read first (rows_of left)
    ∙ ap (of_sides (second (rows_of left))) (whole_sides right silent)
    ∙ of_read (second (rows_of left)) (rows_of right))

-- what a bucket reads of one side
side_same : (n j : ℕ) (streams : List Stream) (own : Bool) → (own ≡ true → Lie n streams)
    → AreSilent streams
    → bucket_read (by_hash n) j 0 (rows_of (own_or_all own j streams))
    ≡ bucket_read (by_hash n) j 0 (rows_of streams)
side_same n j streams true lie silent =
    let all = rows_of streams in
    let parted : AreParted n 0 all = sides_parted repartition n 0 streams all
    (λ i. let number : i ≡ 0 + i = omega arith in
    subst (λ q. AreKeyed (HasBucket n q) (at_or streams i (ended_stream None)).rows) number
    (lie refl i))
    (whole_sides streams silent) in
    ap (λ (rows : List Datum). bucket_read (by_hash n) j 0 (rows ∷ []))
    (sym (at_or-map_any (λ (s : Stream). s.rows) streams j (ended_stream None)))
    ∙ read_same n j all parted
side_same n j streams false lie silent = refl

own_silent : (j : ℕ) (streams : List Stream) (own : Bool) → AreSilent streams
    → AreSilent (own_or_all own j streams)
own_silent j streams true silent =
    none_holds (raises (at_or streams j (ended_stream None))) false
    (silent_at streams j silent) refl
own_silent j streams false silent = silent

-- a meeting of which either side may lie so
pub meet_skipped : (kind : Meeting) (n j : ℕ) (left right : List Stream) (own other : Bool)
    → (own ≡ true → Lie n left) → (other ≡ true → Lie n right) → AreSilent left → AreSilent right
    → met_stream kind n j (own_or_all own j left) (own_or_all other j right)
    ≡ met_stream kind n j left right
meet_skipped kind n j left right own other first second quiet silent =
    met_whole kind n j (own_or_all own j left) (own_or_all other j right)
    (own_silent j left own quiet) (own_silent j right other silent)
    ∙ ap₂ (λ (xs ys : List Datum). whole_stream (met kind xs ys))
    (side_same n j left own first quiet) (side_same n j right other second silent)
    ∙ sym (met_whole kind n j left right quiet silent)
