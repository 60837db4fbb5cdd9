-- Narrow nodes: where one raises nowhere, its parents raise nowhere; and of the same parents it
-- gives the same.
use Rattle.std.proofs.Common.{◌≡◌, ◌∙◌, ℕ, ◌<◌, false, List, [], ◌∷◌, Some, None, length, map, flat_map, All, refl, ap, ap₂, sym, subst, arith}
use Rattle.std.proofs.lemmas.List.Elements.{All-from_recursion, All-head, All-tail, All-weaker}
use Rattle.std.specs.List.{list_any, slice_get, AllByRecursion}
use Rattle.sc_base.specs.Lists.{at_or, numbers_below}
use Rattle.sc_base.specs.Outside.{Files}
use Rattle.sc_lineage.specs.declared.streams.Stream.{Stream}
use Rattle.sc_lineage.specs.Dependencies.{IsNarrow, PlaceData, parents_of, places_from, reads_of}
use Rattle.sc_lineage.specs.Meaning.{meanings_by, node_streams_by, part_count_by, stream_at, stream_count}
use Rattle.sc_lineage.specs.Narrow.{at_row, element_of, given_of, narrow_stream}
use Rattle.sc_lineage.specs.NodeData.{NodeData, text_node, parallelize_node, each_node, union_node, coalesce_node, cache_node, shuffle_node, meet_node}
use Rattle.sc_lineage.specs.Partitioners.{PartitionerData}
use Rattle.sc_lineage.specs.ScriptData.{WorkData, IsSoundScript}
use Rattle.sc_lineage.specs.Streams.{ended_stream, raises}
use Rattle.sc_lineage.proofs.MeaningLemmas.{partition_is_narrow}
use Rattle.sc_lineage.proofs.ReadLemmas.{reads_at_parents, reads_of-parents}
use Rattle.sc_lineage.proofs.ShuffleLemmas.{streams_of_all}
use Rattle.sc_lineage.proofs.WholeLemmas.{reads_are_whole}
use Rattle.sc_laws.proofs.StreamLemmas.{AreSilent, each_silent, joined_silent, none_holds, same_by_places, silent_at, silent_each, silent_runs}

-- what a narrow node reads raises nowhere, where the node's stream doesn't
read_silent : (inputs : Files) (node : NodeData) (p : ℕ) (counts : ℕ → ℕ) (f : PlaceData → Stream)
    → IsNarrow node
    → raises (narrow_stream inputs node p (map f (reads_of counts node p))) ≡ false
    → AreSilent (map f (reads_of counts node p))
read_silent inputs (text_node name n) p counts f narrow silent = refl
read_silent inputs (parallelize_node rows n) p counts f narrow silent = refl
read_silent inputs (each_node kind parent e) p counts f narrow silent =
    let read = f (record { node = parent; partition = p }) in
    none_holds (raises read) false
    (each_silent (given_of kind) (λ d. at_row e (element_of kind d)) read.rows read.raise silent)
    refl
read_silent inputs (union_node left right) p counts f narrow silent =
    joined_silent (map f (reads_of counts (union_node left right) p)) silent
read_silent inputs (coalesce_node parent n) p counts f narrow silent =
    joined_silent (map f (reads_of counts (coalesce_node parent n) p)) silent
read_silent inputs (cache_node parent) p counts f narrow silent =
    none_holds (raises (f (record { node = parent; partition = p }))) false silent refl
read_silent inputs (shuffle_node kind parent n) p counts f narrow silent = absurd narrow
read_silent inputs (meet_node kind left right n) p counts f narrow silent = absurd narrow

-- A narrow node of a work, where some partitioners are known.
module _ (known : List PartitionerData) (work : WorkData) (k : ℕ) (node : NodeData)
    (sound : IsSoundScript work.script) (narrow : IsNarrow node)
    (is : slice_get work.script.nodes k ≡ Some node) where
  abbrev found : List (List Stream)
  found = meanings_by known work

  abbrev reads : ℕ → List PlaceData
  reads p = reads_of (stream_count found) node p

  abbrev count : ℕ
  count = part_count_by known work k

  -- what a partition reads raises nowhere, where the node doesn't
  pub partition_silent : AreSilent (node_streams_by known work k) → (p : ℕ) → p < count
      → AreSilent (map (stream_at found) (reads p))
  partition_silent silent p within =
      read_silent work.inputs node p (stream_count found) (stream_at found) narrow
      (ap raises (sym (partition_is_narrow known work k node sound is p narrow within))
      ∙ silent_at (node_streams_by known work k) p silent)

  -- all that is read is all partitions of all parents
  pub all_read : flat_map reads (numbers_below count)
      ≡ flat_map (λ parent. places_from parent 0 (part_count_by known work parent))
      (parents_of node)
  all_read = reads_are_whole known work k node sound narrow is

  pub parents_silent : AreSilent (node_streams_by known work k)
      → AllByRecursion (λ q. AreSilent (node_streams_by known work q)) (parents_of node)
  parents_silent silent =
      let places : ℕ → List PlaceData =
      λ parent. places_from parent 0 (part_count_by known work parent) in
      let whole = silent_each (stream_at found) places (parents_of node)
      (ap (λ (at : List PlaceData). list_any raises (map (stream_at found) at)) (sym all_read)
      ∙ silent_runs (stream_at found) reads 0 count
      (λ p from to. partition_silent silent p (omega arith))) in
      subst (λ (own : ℕ → List Stream). AllByRecursion (λ q. AreSilent (own q)) (parents_of node))
      (λ i. λ q. streams_of_all found q i) whole

-- streams of places whose nodes have the same
same_read : (streams others : List (List Stream)) (places : List PlaceData)
    → All (λ at. at_or streams at.node [] ≡ at_or others at.node []) places
    → map (stream_at streams) places ≡ map (stream_at others) places
same_read streams others [] same = refl
same_read streams others (at ∷ places) same =
    let P : PlaceData → Type 0 = λ x. at_or streams x.node [] ≡ at_or others x.node [] in
    ap₂ (λ s ss. s ∷ ss)
    (ap (λ (ss : List Stream). at_or ss at.partition (ended_stream None))
    (All-head P at places same))
    (same_read streams others places (All-tail P at places same))

-- A narrow node by two choices of known partitioners, by which its parents have the same streams.
module _ (known others : List PartitionerData) (work : WorkData) (k : ℕ) (node : NodeData)
    (sound : IsSoundScript work.script) (narrow : IsNarrow node)
    (is : slice_get work.script.nodes k ≡ Some node) where
  pub narrow_same : part_count_by known work k ≡ part_count_by others work k
      → AllByRecursion (λ q. node_streams_by known work q ≡ node_streams_by others work q)
      (parents_of node)
      → node_streams_by known work k ≡ node_streams_by others work k
  narrow_same counts each =
      let one = meanings_by known work in
      let other = meanings_by others work in
      let P : ℕ → Type 0 = λ q. at_or one q [] ≡ at_or other q [] in
      let same : All P (parents_of node) = All-from_recursion P (parents_of node) each in
      let Q : ℕ → Type 0 = λ q. stream_count one q ≡ stream_count other q in
      same_by_places (node_streams_by known work k) (node_streams_by others work k)
      (ended_stream None) counts
      (λ p within.
      partition_is_narrow known work k node sound is p narrow (omega arith)
      ∙ ap (narrow_stream work.inputs node p)
      (same_read one other (reads_of (stream_count one) node p)
      (reads_at_parents (stream_count one) P node p same)
      ∙ ap (map (stream_at other))
      (reads_of-parents (stream_count one) (stream_count other) node p
      (All-weaker P Q (λ q e. ap length e) (parents_of node) same)))
      ∙ sym (partition_is_narrow others work k node sound is p narrow within))
