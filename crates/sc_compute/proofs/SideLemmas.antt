-- What goes into a shuffle, and what is read of it.
use Rattle.std.proofs.Common.{◌≡◌, ◌∙◌, ℕ, suc, List, [], ◌∷◌, ◌++◌, Ok, Err, Result, map, refl, ap, ap₂, sym, subst, Bor}
use Rattle.std.proofs.lemmas.List.{append-nil}
use Rattle.std.specs.List.{flat_map}
use Rattle.sc_base.specs.Lists.{at_or}
use Rattle.sc_base.specs.Answers.{Answers}
use Rattle.sc_base.specs.declared.refusals.OrMemory.{OrMemory}
use Rattle.sc_base.specs.declared.refusals.OrMemory.TheVariants.{Fault, OutOfMemory}
use Rattle.sc_value.specs.Datum.{Datum}
use Rattle.sc_value.specs.Keys.{KeyData}
use Rattle.sc_expr.specs.declared.exprs.Raise.{Raise}
use Rattle.sc_combine.specs.Deals.{IsDealt}
use Rattle.sc_lineage.specs.Keyed.{Side, met}
use Rattle.sc_lineage.specs.declared.nodes.Meeting.{Meeting}
use Rattle.sc_lineage.specs.declared.streams.Stream.{Stream}
use Rattle.sc_lineage.specs.NodeData.{ShufflingData, reduce_by_key, group_by_key, sort_by_key, repartition}
use Rattle.sc_lineage.specs.Partitioners.{hash_partitioner, range_partitioner, partitioner_of_shuffle}
use Rattle.sc_lineage.specs.Shuffles.{Dealing, bucket_read, by_hash, by_range, dealing_of, map_side, met_stream, of_sides, reduce_side, shuffled_stream, stream_of_side}
use Rattle.sc_compute.specs.Reading.{GivesSide, IsReadFrom, ReadsBucket}
use Rattle.sc_compute.specs.declared.shuffles.ReadFrom.{ReadFrom}
use Rattle.sc_compute.specs.declared.shuffles.ReadFrom.TheVariants.{Dealt}
use Rattle.sc_compute.specs.Stages.{AreDealt}

-- sides that all give rows
opened : (maps : List (List Datum)) (f : List (List Datum) → Side)
    → of_sides f (map Ok maps) ≡ f maps
opened [] f = refl
opened (rows ∷ maps) f = opened maps (λ more. f (rows ∷ more))

pub opens_then : (sides : List Side) (maps : List (List Datum)) (f : List (List Datum) → Side)
    → sides ≡ map Ok maps → of_sides f sides ≡ f maps
opens_then sides maps f is = ap (of_sides f) is ∙ opened maps f

-- the rows of a bucket of each map partition are those that are read
pub dealt_read : (dealing : Dealing) (p m : ℕ) (maps : List (List Datum))
    (ds : List (List (List Datum))) → AreDealt dealing m maps ds
    → flat_map (λ d. at_or d p []) ds ≡ bucket_read dealing p m maps
dealt_read dealing p m [] [] are = refl
dealt_read dealing p m [] (d ∷ ds) are = absurd are
dealt_read dealing p m (rows ∷ maps) [] are = absurd are
dealt_read dealing p m (rows ∷ maps) (d ∷ ds) are =
    ap₂ (λ xs ys. xs ++ ys) (are.0.each p) (dealt_read dealing p (suc m) maps ds are.1)

-- the rows of a bucket of one map partition
pub own_read : (part rows : List Datum) (dealt : List (List Datum)) (n p : ℕ)
    → part ≡ at_or dealt p [] → IsDealt (by_hash n) 0 rows dealt
    → part ≡ bucket_read (by_hash n) p 0 (rows ∷ [])
own_read part rows dealt n p is deals =
    sym (append-nil part) ∙ ap (λ xs. xs ++ []) (is ∙ deals.each p)

-- how a shuffle deals rows out, by its partitioner
pub deals_by_hash : (kind : ShufflingData) (n m : ℕ) (bounds : List KeyData)
    → partitioner_of_shuffle kind n ≡ hash_partitioner m → dealing_of kind n bounds ≡ by_hash n
deals_by_hash (reduce_by_key e) n m bounds is = refl
deals_by_hash group_by_key n m bounds is = refl
deals_by_hash sort_by_key n m bounds is = cc
deals_by_hash repartition n m bounds is = cc

pub deals_by_range : (kind : ShufflingData) (n : ℕ) (bounds : List KeyData)
    → partitioner_of_shuffle kind n ≡ range_partitioner
    → dealing_of kind n bounds ≡ by_range bounds
deals_by_range (reduce_by_key e) n bounds is = cc
deals_by_range group_by_key n bounds is = cc
deals_by_range sort_by_key n bounds is = refl
deals_by_range repartition n bounds is = cc

-- an answer that is a side gives its stream
pub gives : (answer : Result (List Datum) (OrMemory Raise)) (side : Side) (stream : Stream)
    → Answers (λ rows. rows) (λ r. r) answer side → stream ≡ stream_of_side side
    → GivesSide answer stream
gives (Ok rows) side stream is gives_so = gives_so ∙ ap stream_of_side is
gives (Err (Fault r)) side stream is gives_so = gives_so ∙ ap stream_of_side is
gives (Err OutOfMemory) side stream is gives_so = tt

-- Partition p of a shuffle of one parent.
module _ (kind : ShufflingData) (dealing : Dealing) (p : ℕ) (streams : List Stream) where
  abbrev of_maps : List (List Datum) → Side
  of_maps maps = reduce_side kind (bucket_read dealing p 0 maps)

  pub shuffled_rows : (maps : List (List Datum)) (rows : List Datum)
      → map (map_side kind) streams ≡ map Ok maps → rows ≡ bucket_read dealing p 0 maps
      → shuffled_stream kind dealing p streams ≡ stream_of_side (reduce_side kind rows)
  shuffled_rows maps rows opens read =
      ap stream_of_side
      (opens_then (map (map_side kind) streams) maps of_maps opens
      ∙ ap (reduce_side kind) (sym read))

  pub shuffled_raise : (r : Raise)
      → ((f : List (List Datum) → Side) → of_sides f (map (map_side kind) streams) ≡ Err r)
      → shuffled_stream kind dealing p streams ≡ stream_of_side (Err r)
  shuffled_raise r raises = ap stream_of_side (raises of_maps)

-- Partition p of n where two sides meet.
module _ (kind : Meeting) (n p : ℕ) (lefts rights : List Stream) where
  abbrev passed : List Stream → List Side
  passed streams = map (map_side group_by_key) streams

  abbrev of_both : List (List Datum) → List (List Datum) → Side
  of_both ls rs = Ok (met kind (bucket_read (by_hash n) p 0 ls) (bucket_read (by_hash n) p 0 rs))

  pub met_rows : (ls rs : List (List Datum)) (first second : List Datum)
      → passed lefts ≡ map Ok ls → passed rights ≡ map Ok rs
      → first ≡ bucket_read (by_hash n) p 0 ls → second ≡ bucket_read (by_hash n) p 0 rs
      → met_stream kind n p lefts rights ≡ stream_of_side (Ok (met kind first second))
  met_rows ls rs first second opens_left opens_right read_left read_right =
      ap stream_of_side
      (opens_then (passed lefts) ls (λ more. of_sides (of_both more) (passed rights)) opens_left
      ∙ opens_then (passed rights) rs (of_both ls) opens_right
      ∙ ap₂ (λ xs ys. Ok (met kind xs ys)) (sym read_left) (sym read_right))

  pub left_raise : (r : Raise)
      → ((f : List (List Datum) → Side) → of_sides f (passed lefts) ≡ Err r)
      → met_stream kind n p lefts rights ≡ stream_of_side (Err r)
  left_raise r raises = ap stream_of_side (raises (λ more. of_sides (of_both more) (passed rights)))

  pub right_raise : (ls : List (List Datum)) (r : Raise) → passed lefts ≡ map Ok ls
      → ((f : List (List Datum) → Side) → of_sides f (passed rights) ≡ Err r)
      → met_stream kind n p lefts rights ≡ stream_of_side (Err r)
  right_raise ls r opens raises =
      ap stream_of_side
      (opens_then (passed lefts) ls (λ more. of_sides (of_both more) (passed rights)) opens
      ∙ raises (of_both ls))

-- what is read where the rows of each map partition are dealt out
pub read_dealt : (kind : ShufflingData) (dealing : Dealing) (n p : ℕ) (from : ReadFrom)
    (lent : Bor (List (List (List Datum)))) (streams : List Stream) (rows : List Datum)
    → from ≡ Dealt lent → IsReadFrom kind dealing n from streams
    → rows ≡ flat_map (λ d. at_or d p []) lent.now
    → (maps : List (List Datum)) × (map (map_side kind) streams ≡ map Ok maps)
    × (rows ≡ bucket_read dealing p 0 maps)
read_dealt kind dealing n p from lent streams rows is read are =
    let P : ReadFrom → Type 0 = λ f. IsReadFrom kind dealing n f streams in
    let so : IsReadFrom kind dealing n (Dealt lent) streams = subst P is read in
    (so.0, so.1, are ∙ dealt_read dealing p 0 so.0 lent.now so.2)

-- a right side that couldn't be read
pub gives_right : (kind : Meeting) (n p : ℕ) (lefts rights : List Stream)
    (ls : List (List Datum)) (e : OrMemory Raise)
    → map (map_side group_by_key) lefts ≡ map Ok ls
    → ReadsBucket group_by_key (by_hash n) p rights (Err e)
    → GivesSide (Err e) (met_stream kind n p lefts rights)
gives_right kind n p lefts rights ls (Fault r) opens raises =
    right_raise kind n p lefts rights ls r opens raises
gives_right kind n p lefts rights ls OutOfMemory opens raises = tt
