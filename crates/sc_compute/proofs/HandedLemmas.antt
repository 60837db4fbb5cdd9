-- What was handed in for a side is what its shuffle is to read.
use Rattle.std.proofs.Common.{◌≡◌, ◌∙◌, ℕ, zero, suc, ◌+◌, ◌<◌, ◌≤◌, false, List, [], ◌∷◌, Option, Some, None, Vec, IfSome, Ok, Err, length, map, refl, ap, ap₂, sym, subst, arith}
use Rattle.std.specs.declared.alloc.Global.{Global}
use Rattle.sc_base.specs.Lists.{at_or}
use Rattle.sc_value.specs.Datum.{Datum}
use Rattle.sc_value.specs.Keys.{KeyData}
use Rattle.sc_combine.specs.Deals.{IsDealt, bucket_count}
use Rattle.sc_lineage.specs.Keyed.{Side}
use Rattle.sc_lineage.specs.Meaning.{bounds_of_shuffle, local_stream, local_streams, parts_of_shuffle}
use Rattle.sc_lineage.specs.NodeData.{NodeData, ShufflingData, reduce_by_key, group_by_key, sort_by_key, repartition, text_node, parallelize_node, each_node, union_node, coalesce_node, cache_node, shuffle_node, meet_node}
use Rattle.sc_lineage.specs.Partitioners.{partitioner_of_shuffle}
use Rattle.sc_lineage.specs.ScriptData.{WorkData}
use Rattle.sc_lineage.specs.Shuffles.{Dealing, dealing_of, map_side, stream_of_side}
use Rattle.sc_lineage.specs.Streams.{ended_stream, whole_stream}
use Rattle.sc_lineage.specs.Targets.{side_of_node}
use Rattle.sc_lineage.specs.declared.streams.Stream.{Stream}
use Rattle.sc_combine.specs.Outputs.{IsOutput, dealing_in, dealing_of_node}
use Rattle.sc_compute.specs.Stages.{AreDealt, AreOutputs, AreRight, GoesThrough, IsSideFor, handed_in, lies_so, local_count, mapped_in, node_at, sides_of}
use Rattle.sc_compute.specs.declared.stages.ShuffleInputs.{ShuffleInputs}
use Rattle.sc_compute.proofs.MakingLemmas.{fewer_bounds}

-- a side whose stream is whole gives its rows
pub side_is_rows : (side : Side) (rows : List Datum) → stream_of_side side ≡ whole_stream rows
    → side ≡ Ok rows
side_is_rows (Ok xs) rows is = let same : xs ≡ rows = ap (λ (s : Stream). s.rows) is in ap Ok same
side_is_rows (Err r) rows is =
    let e : Some r ≡ None = ap (λ (s : Stream). s.raise) is in absurd (cc)

-- each of some outputs is what a map partition gives, of which the first has a number
abbrev EachGives : ShufflingData → Dealing → ℕ → List Stream → List (List (List Datum)) → Type 0
EachGives kind dealing first streams outputs =
    (m : ℕ) → m < length outputs
    → (rows : List Datum)
    × (stream_of_side (map_side kind (at_or streams m (ended_stream None))) ≡ whole_stream rows)
    × IsDealt dealing (first + m) rows (at_or outputs m [])

abbrev Found : ShufflingData → Dealing → ℕ → List Stream → List (List (List Datum)) → Type 0
Found kind dealing first streams outputs =
    (maps : List (List Datum)) × (map (map_side kind) streams ≡ map Ok maps)
    × AreDealt dealing first maps outputs

rest_gives : (kind : ShufflingData) (dealing : Dealing) (first : ℕ) (s : Stream)
    (streams : List Stream) (d : List (List Datum)) (outputs : List (List (List Datum)))
    → EachGives kind dealing first (s ∷ streams) (d ∷ outputs)
    → EachGives kind dealing (suc first) streams outputs
rest_gives kind dealing first s streams d outputs each m within =
    moved (each (suc m) (omega (arith, within)))
  where
    Gives : ℕ → Type 0
    Gives j =
        (rows : List Datum)
        × (stream_of_side (map_side kind (at_or streams m (ended_stream None)))
        ≡ whole_stream rows)
        × IsDealt dealing j rows (at_or outputs m [])

    moved : Gives (first + suc m) → Gives (suc first + m)
    moved found = let same : first + suc m ≡ suc first + m = omega arith in subst Gives same found

outputs_open : (kind : ShufflingData) (dealing : Dealing) (first : ℕ) (streams : List Stream)
    (outputs : List (List (List Datum))) → length outputs ≡ length streams
    → EachGives kind dealing first streams outputs → Found kind dealing first streams outputs
outputs_open kind dealing first [] [] long each = ([], refl, tt)
outputs_open kind dealing first [] (d ∷ ds) long each = absurd (omega (arith, long))
outputs_open kind dealing first (s ∷ ss) [] long each = absurd (omega (arith, long))
outputs_open kind dealing first (s ∷ ss) (d ∷ ds) long each =
    let here = each 0 (omega arith) in
    let start : first + 0 ≡ first = omega arith in
    let rest = outputs_open kind dealing (suc first) ss ds (omega (arith, long))
    (rest_gives kind dealing first s ss d ds each) in (
      here.0 ∷ rest.0,
      ap₂ (λ x xs. x ∷ xs) (side_is_rows (map_side kind s) here.0 here.1) rest.1,
      (subst (λ j. IsDealt dealing j here.0 d) start here.2, rest.2),
    )

-- outputs are those of the tasks of a side that goes through a shuffle
abbrev pub AreHanded : WorkData → ShufflingData → ℕ → ℕ → List (List (List Datum)) → Type 0
AreHanded work kind parent n outputs =
    (lies_so work (partitioner_of_shuffle kind n) parent ≡ false)
    × (length outputs ≡ local_count work parent)
    × EachGives kind (dealing_in work kind parent n) 0 (local_streams work parent) outputs

-- the same by what a node says of the side
abbrev OfNode : WorkData → NodeData → ℕ → List (List (List Datum)) → Type 0
OfNode work node side outputs =
    (m : ℕ) → m < length outputs
    → (rows : List Datum)
    × (stream_of_side (side_of_node node (local_stream work (mapped_in node side) m))
    ≡ whole_stream rows)
    × IsDealt (dealing_of_node work node) (0 + m) rows (at_or outputs m [])

by_node : (work : WorkData) (node : NodeData) (side : ℕ) (kind : ShufflingData) (parent n : ℕ)
    (outputs : List (List (List Datum))) → IsSideFor node side kind parent n
    → GoesThrough work node side → length outputs ≡ local_count work (mapped_in node side)
    → OfNode work node side outputs → AreHanded work kind parent n outputs
by_node work (shuffle_node does left i) zero kind parent n outputs is through count each =
    all does left i is (through, count, each)
  where
    all : (k : ShufflingData) (q j : ℕ) → (k ≡ kind) × (q ≡ parent) × (j ≡ n)
        → AreHanded work k q j outputs → AreHanded work kind parent n outputs
    all k q j same are =
        subst (λ x. AreHanded work x parent n outputs) same.0
        (subst (λ x. AreHanded work k x n outputs) same.1
        (subst (λ x. AreHanded work k q x outputs) same.2 are))
by_node work (meet_node does left right i) zero kind parent n outputs is through count each =
    all group_by_key left i is (through, count, each)
  where
    all : (k : ShufflingData) (q j : ℕ) → (k ≡ kind) × (q ≡ parent) × (j ≡ n)
        → AreHanded work k q j outputs → AreHanded work kind parent n outputs
    all k q j same are =
        subst (λ x. AreHanded work x parent n outputs) same.0
        (subst (λ x. AreHanded work k x n outputs) same.1
        (subst (λ x. AreHanded work k q x outputs) same.2 are))
by_node work (meet_node does left right i) (suc zero) kind parent n outputs is through count each =
    all group_by_key right i is (through, count, each)
  where
    all : (k : ShufflingData) (q j : ℕ) → (k ≡ kind) × (q ≡ parent) × (j ≡ n)
        → AreHanded work k q j outputs → AreHanded work kind parent n outputs
    all k q j same are =
        subst (λ x. AreHanded work x parent n outputs) same.0
        (subst (λ x. AreHanded work k x n outputs) same.1
        (subst (λ x. AreHanded work k q x outputs) same.2 are))
by_node work (shuffle_node does left i) (suc side) kind parent n outputs is through count each =
    absurd is
by_node work (meet_node does left right i) (suc (suc side)) kind parent n outputs is through count
    each =
    absurd is
by_node work (text_node name i) side kind parent n outputs is through count each = absurd is
by_node work (parallelize_node rows i) side kind parent n outputs is through count each = absurd is
by_node work (each_node op left e) side kind parent n outputs is through count each = absurd is
by_node work (union_node left right) side kind parent n outputs is through count each = absurd is
by_node work (coalesce_node left i) side kind parent n outputs is through count each = absurd is
by_node work (cache_node left) side kind parent n outputs is through count each = absurd is

-- how many partitions a shuffle has, by its buckets
parts_by_buckets : (kind : ShufflingData) (n : ℕ) (bounds : List KeyData)
    → bucket_count (dealing_of kind n bounds) ≡ parts_of_shuffle kind n bounds
parts_by_buckets (reduce_by_key e) n bounds = refl
parts_by_buckets group_by_key n bounds = refl
parts_by_buckets sort_by_key n bounds = refl
parts_by_buckets repartition n bounds = refl

few_parts : (kind : ShufflingData) (streams : List Stream) (n : ℕ) → 0 < n
    → parts_of_shuffle kind n (bounds_of_shuffle kind streams n) ≤ n
few_parts (reduce_by_key e) streams n some = omega arith
few_parts group_by_key streams n some = omega arith
few_parts sort_by_key streams n some =
    let few = fewer_bounds sort_by_key streams n some in omega (arith, few)
few_parts repartition streams n some = omega arith

-- what was handed in for a side is what its tasks left
pub were_handed : (work : WorkData) (stages : ShuffleInputs) (k side : ℕ)
    (outputs : Vec (List (List Datum)) Global) → AreRight work stages
    → handed_in stages k side ≡ Some outputs → AreOutputs work k side outputs.items
were_handed work stages k side outputs right is =
    let P : Option (Vec (List (List Datum)) Global) → Type 0 =
    λ o. IfSome o (λ found. AreOutputs work k side found.items) in
    subst P is (right.handed k side)

-- What was handed in for a side of a node.
module _ (work : WorkData) (k side : ℕ) (kind : ShufflingData) (parent n : ℕ)
    (outputs : List (List (List Datum))) (is : IsSideFor (node_at work k) side kind parent n)
    (are : AreOutputs work k side outputs) where
  abbrev bounds : List KeyData
  bounds = bounds_of_shuffle kind (local_streams work parent) n

  handed : AreHanded work kind parent n outputs
  handed =
      by_node work (node_at work k) side kind parent n outputs is are.through are.count
      (λ m within. of_output m (are.each m within))
    where
      of_output : (m : ℕ) → IsOutput work k side m (at_or outputs m [])
          → (rows : List Datum)
          × (stream_of_side (side_of_node (node_at work k)
          (local_stream work (mapped_in (node_at work k) side) m)) ≡ whole_stream rows)
          × IsDealt (dealing_of_node work (node_at work k)) (0 + m) rows (at_or outputs m [])
      of_output m output =
          let from_zero : m ≡ 0 + m = omega arith in (
            output.rows,
            output.own,
            subst (λ j. IsDealt (dealing_of_node work (node_at work k)) j output.rows
                (at_or outputs m [])) from_zero output.by_bucket,
          )

  pub doesnt_lie : lies_so work (partitioner_of_shuffle kind n) parent ≡ false
  doesnt_lie = handed.0

  pub handed_maps : (dealt : List (List (List Datum))) → dealt ≡ outputs
      → (maps : List (List Datum)) × (sides_of work kind parent ≡ map Ok maps)
      × AreDealt (dealing_in work kind parent n) 0 maps dealt
  handed_maps dealt same =
      let found = outputs_open kind (dealing_in work kind parent n) 0 (local_streams work parent)
      outputs handed.1 handed.2 in (
        found.0,
        found.1,
        subst (AreDealt (dealing_in work kind parent n) 0 found.0) (sym same)
            found.2,
      )

  pub handed_parts : 0 < local_count work parent
      → length (at_or outputs 0 []) ≡ parts_of_shuffle kind n bounds
  handed_parts some =
      (handed.2 0 (omega (arith, handed.1, some))).2.count ∙ parts_by_buckets kind n bounds

  pub handed_few : 0 < local_count work parent → 0 < n → length (at_or outputs 0 []) ≤ n
  handed_few some parts =
      let few = few_parts kind (local_streams work parent) n parts in
      let is_so = handed_parts some in
      omega (arith, few, is_so)
