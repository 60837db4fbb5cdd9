-- Places that were found by counts which are right at a node's parents.
use Rattle.std.proofs.Common.{◌≡◌, ◌∙◌, ℕ, ◌<◌, List, [], ◌∷◌, Some, map, All, refl, ap, sym}
use Rattle.std.specs.List.{slice_get}
use Rattle.sc_base.specs.Lists.{at_or}
use Rattle.sc_lineage.specs.Dependencies.{IsNarrow, parents_of, reads_of}
use Rattle.sc_lineage.specs.Meaning.{meanings_by, part_count_by, partition_stream_by, stream_at, stream_count}
use Rattle.sc_lineage.specs.Narrow.{narrow_stream}
use Rattle.sc_lineage.specs.NodeData.{NodeData}
use Rattle.sc_lineage.specs.Partitioners.{PartitionerData}
use Rattle.sc_lineage.specs.ScriptData.{WorkData, IsSoundScript}
use Rattle.sc_lineage.specs.Views.{place_data_of}
use Rattle.sc_lineage.specs.declared.dependencies.Place.{Place}
use Rattle.sc_lineage.specs.declared.streams.Stream.{Stream}
use Rattle.sc_lineage.proofs.MeaningLemmas.{partition_is_narrow}
use Rattle.sc_lineage.proofs.ReadLemmas.{reads_of-parents}

module _ (known : List PartitionerData) (work : WorkData) where
  -- the streams at some places
  pub streams_at : (places : List Place)
      → map (λ at. partition_stream_by known work at.node at.partition) places
      ≡ map (stream_at (meanings_by known work)) (map place_data_of places)
  streams_at [] = refl
  streams_at (at ∷ places) =
      ap (λ ss. partition_stream_by known work at.node at.partition ∷ ss) (streams_at places)

  -- what a narrow node gives of the streams at the places that were found, for one of its
  -- partitions
  pub stream_from_places : (k p : ℕ) (node : NodeData) (counts : List ℕ) (places : List Place)
      (streams : List Stream) → IsSoundScript work.script → IsNarrow node
      → slice_get work.script.nodes k ≡ Some node → p < part_count_by known work k
      → All (λ q. at_or counts q 0 ≡ part_count_by known work q) (parents_of node)
      → map place_data_of places ≡ reads_of (λ q. at_or counts q 0) node p
      → streams ≡ map (λ at. partition_stream_by known work at.node at.partition) places
      → narrow_stream work.inputs node p streams ≡ partition_stream_by known work k p
  stream_from_places k p node counts places streams sound narrow is within right read are =
      ap (narrow_stream work.inputs node p)
      (are ∙ streams_at places
      ∙ ap (map (stream_at (meanings_by known work)))
      (read ∙ reads_of-parents (λ q. at_or counts q 0) (stream_count (meanings_by known work)) node
      p right))
      ∙ sym (partition_is_narrow known work k node sound is p narrow within)
