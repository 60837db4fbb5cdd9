-- The rows of narrow nodes that join what they read.
use Rattle.std.proofs.Common.{◌≡◌, ◌∙◌, ℕ, ◌<◌, List, [], ◌++◌, append-nil, Some, None, map, flat_map, refl, ap, sym, arith}
use Rattle.std.proofs.lemmas.List.Folds.{flat_map-map}
use Rattle.std.specs.List.{slice_get}
use Rattle.sc_base.specs.Lists.{numbers_below}
use Rattle.sc_value.specs.Datum.{Datum}
use Rattle.sc_lineage.specs.declared.streams.Stream.{Stream}
use Rattle.sc_lineage.specs.Actions.{all_rows}
use Rattle.sc_lineage.specs.Dependencies.{IsNarrow, PlaceData, parents_of, places_from, reads_of}
use Rattle.sc_lineage.specs.Meaning.{meanings_by, node_streams_by, part_count_by, partition_stream_by, stream_at, stream_count}
use Rattle.sc_lineage.specs.Narrow.{narrow_stream}
use Rattle.sc_lineage.specs.NodeData.{NodeData, union_node, coalesce_node}
use Rattle.sc_lineage.specs.Partitioners.{PartitionerData}
use Rattle.sc_lineage.specs.ScriptData.{WorkData, IsSoundScript}
use Rattle.sc_lineage.specs.Streams.{ended_stream, joined_streams}
use Rattle.sc_lineage.proofs.MeaningLemmas.{partition_is_narrow}
use Rattle.sc_lineage.proofs.ShuffleLemmas.{streams_of_all}
use Rattle.sc_laws.specs.Coalesces.{CoalesceLaw}
use Rattle.sc_laws.proofs.NarrowLemmas.{all_read, parents_silent, partition_silent}
use Rattle.sc_laws.proofs.StreamLemmas.{AreSilent, agree_on, by_numbers, joined_rows, runs_of_runs}

-- the rows of streams that are read run by run
rows_read : (f : PlaceData → Stream) (g : ℕ → List PlaceData) (xs : List ℕ)
    → flat_map (λ x. all_rows (map f (g x))) xs ≡ all_rows (map f (flat_map g xs))
rows_read f g xs =
    let h : PlaceData → List Datum = λ at. (f at).rows in
    ap (λ (rows : ℕ → List Datum). flat_map rows xs)
    (λ i. λ x. flat_map-map (λ s. s.rows) f (g x) i)
    ∙ runs_of_runs h g xs
    ∙ sym (flat_map-map (λ s. s.rows) f (flat_map g xs))

-- A narrow node of a work, where some partitioners are known.
module _ (known : List PartitionerData) (work : WorkData) (k : ℕ) (node : NodeData)
    (sound : IsSoundScript work.script) (narrow : IsNarrow node)
    (is : slice_get work.script.nodes k ≡ Some node) where
  abbrev found : List (List Stream)
  found = meanings_by known work

  abbrev reads : ℕ → List PlaceData
  reads p = reads_of (stream_count found) node p

  abbrev count : ℕ
  count = part_count_by known work k

  -- the rows of a node that joins what it reads
  pub rows_joined : ((p : ℕ) (read : List Stream)
      → narrow_stream work.inputs node p read ≡ joined_streams read)
      → AreSilent (node_streams_by known work k)
      → all_rows (node_streams_by known work k)
      ≡ flat_map (λ q. all_rows (node_streams_by known work q)) (parents_of node)
  rows_joined joins silent =
      let streams = node_streams_by known work k in
      let own : ℕ → Stream = partition_stream_by known work k in
      ap all_rows (by_numbers streams (ended_stream None))
      ∙ flat_map-map (λ (s : Stream). s.rows) own (numbers_below count)
      ∙ agree_on (λ p. (own p).rows) (λ p. all_rows (map (stream_at found) (reads p))) 0 count
      (λ p from to. let within : p < count = omega arith in
      ap (λ (s : Stream). s.rows) (partition_is_narrow known work k node sound is p narrow within
      ∙ joins p (map (stream_at found) (reads p)))
      ∙ joined_rows (map (stream_at found) (reads p))
      (partition_silent known work k node sound narrow is silent p within))
      ∙ rows_read (stream_at found) reads (numbers_below count)
      ∙ ap (λ (at : List PlaceData). all_rows (map (stream_at found) at))
      (all_read known work k node sound narrow is)
      ∙ sym (rows_read (stream_at found)
      (λ parent. places_from parent 0 (part_count_by known work parent)) (parents_of node))
      ∙ ap (λ (own : ℕ → List Stream). flat_map (λ q. all_rows (own q)) (parents_of node))
      (λ i. λ q. streams_of_all found q i)

pub coalesces : CoalesceLaw
coalesces work node united left right n sound is united_is silent =
    let above = coalesce_node united n in
    let below = union_node left right in
    let quiet = parents_silent [] work node above sound tt is silent in
    let rows : ℕ → List Datum = λ q. all_rows (node_streams_by [] work q) in
    rows_joined [] work node above sound tt is (λ p read. refl) silent
    ∙ append-nil (rows united)
    ∙ rows_joined [] work united below sound tt united_is (λ p read. refl) quiet.0
    ∙ ap (λ more. rows left ++ more) (append-nil (rows right))
