-- What the meaning gives, by the numbers of nodes and of partitions, whichever partitioners are
-- known.
use Rattle.std.proofs.Common.{◌≡◌, ◌∙◌, ℕ, zero, suc, ◌+◌, ◌<◌, List, [], ◌∷◌, ◌++◌, Some, None, length, map, take, flat_map, All, refl, ap, ap₂, sym, subst, arith}
use Rattle.std.proofs.lemmas.List.{length-map, map-append}
use Rattle.std.proofs.lemmas.List.Elements.{All-weaker, All-head, All-tail}
use Rattle.std.specs.List.{slice_get}
use Rattle.sc_base.specs.Lists.{at_or, numbers_below}
use Rattle.sc_value.specs.Keys.{KeyData}
use Rattle.sc_lineage.specs.declared.streams.Stream.{Stream}
use Rattle.sc_lineage.specs.Dependencies.{Dependency, IsNarrow, PlaceData, dependencies_of, parents_of, places_read, reads_by, reads_of}
use Rattle.sc_lineage.specs.Laws.{PartitionsAreMade, PartitionsAreNarrow}
use Rattle.sc_lineage.specs.Meaning.{bounds_step, bounds_of_shuffle, in_order, meanings_by, node_stream, node_streams_by, part_count_by, partition_stream_by, parts_step, stream_at, stream_count, streams_read, streams_step}
use Rattle.sc_lineage.specs.Narrow.{narrow_stream}
use Rattle.sc_lineage.specs.NodeData.{NodeData, text_node, parallelize_node, each_node, union_node, coalesce_node, cache_node, shuffle_node, meet_node}
use Rattle.sc_lineage.specs.Partitioners.{PartitionerData}
use Rattle.sc_lineage.specs.ScriptData.{ScriptData, WorkData, count_step, ReadsBefore, AreWellPlaced, IsSoundScript}
use Rattle.sc_lineage.specs.Streams.{ended_stream}
use Rattle.sc_lineage.proofs.PlaceLemmas.{at_or-take, at_or-map_any, at_or-numbers_below, length-numbers_below}
use Rattle.sc_lineage.proofs.ByNodesLemmas.{fold_laws}
use Rattle.sc_lineage.proofs.ReadLemmas.{counts_by_parents, narrow_by, reads_by_at_parents, reads_by_parents}

-- a node reads only nodes before it
well_placed : (first : ℕ) (nodes : List NodeData) (i k : ℕ) (node : NodeData)
    → AreWellPlaced first nodes → slice_get nodes i ≡ Some node → k ≡ first + i → ReadsBefore k node
well_placed first [] i k node placed is at = cc
well_placed first (n ∷ nodes) zero k node placed is at =
    let same : n ≡ node = cc in
    let number : first ≡ k = omega arith in
    let P : ℕ → Type 0 = λ j. ReadsBefore j node in
    let Q : NodeData → Type 0 = λ m. ReadsBefore first m in
    subst P number (subst Q same placed.0)
well_placed first (n ∷ nodes) (suc i) k node placed is at =
    well_placed (1 + first) nodes i k node placed.1 is (omega arith)

pub reads_before : (script : ScriptData) (k : ℕ) (node : NodeData) → IsSoundScript script
    → slice_get script.nodes k ≡ Some node → ReadsBefore k node
reads_before script k node sound is =
    well_placed 0 script.nodes k k node sound.nodes is (omega arith)

-- The streams of the nodes before one serve it as those of all nodes do.
module _ (all : List (List Stream)) (k : ℕ) where
  same_streams : (places : List PlaceData) → All (λ at. at.node < k) places
      → map (stream_at (take k all)) places ≡ map (stream_at all) places
  same_streams [] below = refl
  same_streams (at ∷ places) below =
      ap (λ (ss : List Stream). at_or ss at.partition (ended_stream None)
      ∷ map (stream_at (take k all)) places)
      (at_or-take all k at.node [] (All-head (λ x. x.node < k) at places below))
      ∙ ap (λ (rest : List Stream). stream_at all at ∷ rest)
      (same_streams places (All-tail (λ x. x.node < k) at places below))

  same_sides : (sides : List (List PlaceData)) → All (All (λ at. at.node < k)) sides
      → map (map (stream_at (take k all))) sides ≡ map (map (stream_at all)) sides
  same_sides [] below = refl
  same_sides (places ∷ sides) below =
      ap₂ (λ ss sss. ss ∷ sss)
      (same_streams places (All-head (All (λ at. at.node < k)) places sides below))
      (same_sides sides (All-tail (All (λ at. at.node < k)) places sides below))

  same_counts : (nodes : List ℕ) → All (λ q. q < k) nodes
      → All (λ q. stream_count (take k all) q ≡ stream_count all q) nodes
  same_counts nodes below =
      All-weaker (λ q. q < k) (λ q. stream_count (take k all) q ≡ stream_count all q)
      (λ q first. ap length (at_or-take all k q [] first)) nodes below

  streams_read-same : (known : List PartitionerData) (node : NodeData) (p : ℕ)
      → ReadsBefore k node → streams_read known (take k all) node p ≡ streams_read known all node p
  streams_read-same known node p before =
      ap (map (map (stream_at (take k all))))
      (reads_by_parents (stream_count (take k all)) (stream_count all) known node p
      (same_counts (parents_of node) before))
      ∙ same_sides (reads_by known (stream_count all) node p)
      (reads_by_at_parents (stream_count all) (λ q. q < k) known node p before)

  pub bounds-same : (node : NodeData) → ReadsBefore k node
      → bounds_step (take k all) node ≡ bounds_step all node
  bounds-same (text_node name n) before = refl
  bounds-same (parallelize_node rows n) before = refl
  bounds-same (each_node kind parent e) before = refl
  bounds-same (union_node left right) before = refl
  bounds-same (coalesce_node parent n) before = refl
  bounds-same (cache_node parent) before = refl
  bounds-same (shuffle_node kind parent n) before =
      ap (λ (ss : List Stream). bounds_of_shuffle kind ss n)
      (at_or-take all k parent [] (All-head (λ q. q < k) parent [] before))
  bounds-same (meet_node kind left right n) before = refl

-- the number of partitions of a node depends on the counts of the parents alone
pub parts_by_parents : (bounds : List KeyData) (before others : List ℕ) (node : NodeData)
    → All (λ q. at_or before q 0 ≡ at_or others q 0) (parents_of node)
    → parts_step bounds before node ≡ parts_step bounds others node
parts_by_parents bounds before others (text_node name n) same = refl
parts_by_parents bounds before others (parallelize_node rows n) same = refl
parts_by_parents bounds before others (each_node kind parent e) same =
    counts_by_parents before others (each_node kind parent e) same
parts_by_parents bounds before others (union_node left right) same =
    counts_by_parents before others (union_node left right) same
parts_by_parents bounds before others (coalesce_node parent n) same =
    counts_by_parents before others (coalesce_node parent n) same
parts_by_parents bounds before others (cache_node parent) same =
    counts_by_parents before others (cache_node parent) same
parts_by_parents bounds before others (shuffle_node kind parent n) same = refl
parts_by_parents bounds before others (meet_node kind left right n) same = refl

-- a narrow node has as many partitions as the grammar would count
pub parts_of_narrow : (found : List (List Stream)) (counts : List ℕ) (node : NodeData)
    → IsNarrow node → parts_step (bounds_step found node) counts node ≡ count_step counts node
parts_of_narrow found counts (text_node name n) narrow = refl
parts_of_narrow found counts (parallelize_node rows n) narrow = refl
parts_of_narrow found counts (each_node kind parent e) narrow = refl
parts_of_narrow found counts (union_node left right) narrow = refl
parts_of_narrow found counts (coalesce_node parent n) narrow = refl
parts_of_narrow found counts (cache_node parent) narrow = refl
parts_of_narrow found counts (shuffle_node kind parent n) narrow = absurd narrow
parts_of_narrow found counts (meet_node kind left right n) narrow = absurd narrow

-- a narrow node's stream, from the streams that were read one after another
stream_of_narrow : (inputs : List (List ℕ × List ℕ)) (bounds : List KeyData) (node : NodeData)
    (p : ℕ) (read : List (List Stream)) → IsNarrow node
    → node_stream inputs bounds node p read ≡ narrow_stream inputs node p (in_order read)
stream_of_narrow inputs bounds (text_node name n) p read narrow = refl
stream_of_narrow inputs bounds (parallelize_node rows n) p read narrow = refl
stream_of_narrow inputs bounds (each_node kind parent e) p read narrow = refl
stream_of_narrow inputs bounds (union_node left right) p read narrow = refl
stream_of_narrow inputs bounds (coalesce_node parent n) p read narrow = refl
stream_of_narrow inputs bounds (cache_node parent) p read narrow = refl
stream_of_narrow inputs bounds (shuffle_node kind parent n) p read narrow = absurd narrow
stream_of_narrow inputs bounds (meet_node kind left right n) p read narrow = absurd narrow

-- streams that are read by each dependency, one after another
read_in_order : (f : PlaceData → Stream) (g : Dependency → List PlaceData)
    (ds : List Dependency) → in_order (map (map f) (map g ds)) ≡ map f (flat_map g ds)
read_in_order f g [] = refl
read_in_order f g (d ∷ ds) =
    ap (λ (ss : List Stream). map f (g d) ++ ss) (read_in_order f g ds)
    ∙ sym (map-append f (g d) (flat_map g ds))

-- The partitions of a work, where some partitioners are known.
module _ (known : List PartitionerData) (work : WorkData) where
  abbrev found : List (List Stream)
  found = meanings_by known work

  -- the streams of a node, by those of the nodes before it
  node_streams-is : (k : ℕ) (node : NodeData) → slice_get work.script.nodes k ≡ Some node
      → node_streams_by known work k ≡ streams_step work.inputs known (take k found) node
  node_streams-is k node is =
      (fold_laws (streams_step work.inputs known)).steps work.script.nodes k node [] is

  module _ (k : ℕ) (node : NodeData) (sound : IsSoundScript work.script)
      (is : slice_get work.script.nodes k ≡ Some node) where
    abbrev before : ReadsBefore k node
    before = reads_before work.script k node sound is

    -- the number of partitions of a node, by those of its parents
    pub part_count-step : part_count_by known work k
        ≡ parts_step (bounds_step found node) (map length found) node
    part_count-step =
        let first = take k found in
        let bounds = bounds_step first node in
        let count : ℕ = parts_step bounds (map length first) node in
        let f : ℕ → Stream = λ p. node_stream work.inputs bounds node p
        (streams_read known first node p) in
        ap length (node_streams-is k node is)
        ∙ length-map (numbers_below count) f ∙ length-numbers_below count
        ∙ parts_by_parents bounds (map length first) (map length found) node
        (All-weaker (λ q. q < k) (λ q. at_or (map length first) q 0 ≡ at_or (map length found) q 0)
        (λ q below. at_or-map_any length first q [] ∙ ap length (at_or-take found k q [] below)
        ∙ sym (at_or-map_any length found q []))
        (parents_of node) before)
        ∙ ap (λ (bs : List KeyData). parts_step bs (map length found) node)
        (bounds-same found k node before)

    -- the stream of a partition, by those that it reads
    pub partition_is_made : (p : ℕ) → p < part_count_by known work k
        → partition_stream_by known work k p
        ≡ node_stream work.inputs (bounds_step found node) node p (streams_read known found node p)
    partition_is_made p within =
        let first = take k found in
        let bounds = bounds_step first node in
        let count : ℕ = parts_step bounds (map length first) node in
        let f : ℕ → Stream = λ i. node_stream work.inputs bounds node i
        (streams_read known first node i) in
        let len : part_count_by known work k ≡ count =
        ap length (node_streams-is k node is)
        ∙ length-map (numbers_below count) f ∙ length-numbers_below count in
        ap (λ (ss : List Stream). at_or ss p (ended_stream None)) (node_streams-is k node is)
        ∙ at_or-numbers_below f count p (ended_stream None) (omega (arith, len))
        ∙ ap (node_stream work.inputs bounds node p) (streams_read-same found k known node p before)
        ∙ ap (λ (bs : List KeyData). node_stream work.inputs bs node p
        (streams_read known found node p)) (bounds-same found k node before)

    -- the same of a narrow node
    pub partition_is_narrow : (p : ℕ) → IsNarrow node → p < part_count_by known work k
        → partition_stream_by known work k p
        ≡ narrow_stream work.inputs node p
        (map (stream_at found) (reads_of (stream_count found) node p))
    partition_is_narrow p narrow within =
        let counts = stream_count found in
        partition_is_made p within
        ∙ stream_of_narrow work.inputs (bounds_step found node) node p
        (streams_read known found node p) narrow
        ∙ ap (λ (ds : List Dependency). narrow_stream work.inputs node p
        (in_order (map (map (stream_at found)) (map (places_read counts p) ds))))
        (narrow_by known node narrow)
        ∙ ap (narrow_stream work.inputs node p)
        (read_in_order (stream_at found) (places_read counts p) (dependencies_of node))

pub partitions_are_made : PartitionsAreMade
partitions_are_made known work k p node sound is within =
    partition_is_made known work k node sound is p within

pub partitions_are_narrow : PartitionsAreNarrow
partitions_are_narrow known work k p node sound narrow is within =
    partition_is_narrow known work k node sound is p narrow within

-- the number of partitions of a node, among those of all nodes
pub reads_by_counts : (found : List (List Stream)) (node : NodeData) (p : ℕ)
    → reads_of (stream_count found) node p
    ≡ reads_of (λ q. at_or (map length found) q 0) node p
reads_by_counts found node p =
    ap (λ (counts : ℕ → ℕ). reads_of counts node p)
    (λ i. λ q. sym (at_or-map_any length found q []) i)
