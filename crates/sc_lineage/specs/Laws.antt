-- Laws of the meaning.
use Rattle.std.specs.Prelude.{ℕ, ◌≡◌, ◌<◌, ◌≤◌, ◌↔◌, List, ◌++◌, Some, slice_get, length, map, take, Contains}
use Rattle.std.specs.List.{IsDistinct, flat_map}
use Rattle.std.specs.Str.{bytes_eq}
use Rattle.sc_base.specs.Lists.{numbers_below}
use Rattle.sc_base.specs.Outside.{Files}
use Rattle.sc_lineage.specs.Dependencies.{IsNarrow, parents_of, places_from, reads_of}
use Rattle.sc_lineage.specs.ByNodes.{IsFold}
use Rattle.sc_lineage.specs.Meaning.{bounds_step, meanings_by, node_stream, part_count_by, partition_stream_by, stream_at, stream_count, streams_read, streams_step}
use Rattle.sc_lineage.specs.Narrow.{narrow_stream}
use Rattle.sc_lineage.specs.NodeData.{NodeData}
use Rattle.sc_lineage.specs.Partitioners.{PartitionerData, partitioner_step}
use Rattle.sc_lineage.specs.Saves.{SavesAreLawful}
use Rattle.sc_lineage.specs.ScriptData.{ScriptData, WorkData, IsSoundScript, count_step, declared_count, input_names, names_of_node}

-- a partition's stream is that of its node, over the streams of the partitions that it reads, by
-- each dependency, whichever partitioners are known
abbrev pub PartitionsAreMade : Type 0
PartitionsAreMade =
    (known : List PartitionerData) (work : WorkData) (k p : ℕ) (node : NodeData)
    → IsSoundScript work.script
    → slice_get work.script.nodes k ≡ Some node → p < part_count_by known work k
    → partition_stream_by known work k p
    ≡ node_stream work.inputs (bounds_step (meanings_by known work) node) node p
    (streams_read known (meanings_by known work) node p)

-- a partition of a narrow node is read in order from the partitions of its parents
abbrev pub PartitionsAreNarrow : Type 0
PartitionsAreNarrow =
    (known : List PartitionerData) (work : WorkData) (k p : ℕ) (node : NodeData)
    → IsSoundScript work.script → IsNarrow node
    → slice_get work.script.nodes k ≡ Some node → p < part_count_by known work k
    → partition_stream_by known work k p
    ≡ narrow_stream work.inputs node p
    (map (stream_at (meanings_by known work))
    (reads_of (stream_count (meanings_by known work)) node p))

-- The partitions of a narrow node together, in order, read each partition of its parents once: the
-- parents in order, and the partitions of each in theirs.
abbrev pub ReadsAreWhole : Type 0
ReadsAreWhole =
    (known : List PartitionerData) (work : WorkData) (k : ℕ) (node : NodeData)
    → IsSoundScript work.script → IsNarrow node
    → slice_get work.script.nodes k ≡ Some node
    → flat_map (reads_of (stream_count (meanings_by known work)) node)
    (numbers_below (part_count_by known work k))
    ≡ flat_map (λ parent. places_from parent 0 (part_count_by known work parent)) (parents_of node)

-- a node has at least one partition, and at most as many as the grammar counts
pub record IsWithinDeclared (script : ScriptData) (k count : ℕ) : Type 0 where
  pub some : 1 ≤ count
  pub within : count ≤ declared_count script k

abbrev pub CountsAreWithin : Type 0
CountsAreWithin =
    (known : List PartitionerData) (work : WorkData) (k : ℕ) → IsSoundScript work.script
    → k < length work.script.nodes
    → IsWithinDeclared work.script k (part_count_by known work k)

-- the inputs of a script are those that its nodes name
abbrev pub InputsAreNamed : Type 0
InputsAreNamed =
    (script : ScriptData) (name : List ℕ)
    → Contains (input_names script) name
    ↔ Contains (flat_map names_of_node script.nodes) name

-- no input of a script is named twice
abbrev pub InputsAreNamedOnce : Type 0
InputsAreNamedOnce = (script : ScriptData) → IsDistinct bytes_eq (input_names script)

-- inputs stand in the order of first naming: nodes behind others put theirs behind
abbrev pub InputsAreInOrder : Type 0
InputsAreInOrder =
    (script longer : ScriptData) (more : List NodeData) → longer.nodes ≡ script.nodes ++ more
    → take (length (input_names script)) (input_names longer) ≡ input_names script

-- the laws of the meaning
pub record MeaningIsLawful : Type 0 where
  pub counts_fold : IsFold count_step
  pub partitioners_fold : IsFold partitioner_step
  pub streams_fold :
      (inputs : Files) (known : List PartitionerData) → IsFold (streams_step inputs known)
  pub partitions : PartitionsAreMade
  pub narrow : PartitionsAreNarrow
  pub reads : ReadsAreWhole
  pub counts : CountsAreWithin
  pub inputs : InputsAreNamed
  pub inputs_once : InputsAreNamedOnce
  pub inputs_order : InputsAreInOrder
  pub saves : SavesAreLawful
