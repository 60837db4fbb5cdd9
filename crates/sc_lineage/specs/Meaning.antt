-- The meaning of a script over its inputs: a stream for each partition of each node, by one fold
-- over the nodes in order. It knows lists alone: no thread, no stage and no attempt.
--
-- The fold has a parameter: the partitioners that are known of nodes, by which a shuffle may be
-- skipped. In the sequential meaning none is known, so that every operation by key is a shuffle. In
-- the local meaning, which is what tasks compute, those of all nodes are.
use Rattle.std.specs.Prelude.{ℕ, ◌+◌, List, [], map, length, None, if◌then◌else◌}
use Rattle.std.specs.List.{flat_map, list_any}
use Rattle.sc_base.specs.Lists.{at_or, numbers_below}
use Rattle.sc_base.specs.Outside.{Files}
use Rattle.sc_value.specs.Keys.{KeyData}
use Rattle.sc_part.specs.Bounds.{bounds_of}
use Rattle.sc_lineage.specs.declared.streams.Stream.{Stream}
use Rattle.sc_lineage.specs.ByNodes.{by_nodes}
use Rattle.sc_lineage.specs.Dependencies.{PlaceData, reads_by}
use Rattle.sc_lineage.specs.Keyed.{key_of}
use Rattle.sc_lineage.specs.NodeData.{NodeData, ShufflingData, reduce_by_key, group_by_key, sort_by_key, repartition, text_node, parallelize_node, each_node, union_node, coalesce_node, cache_node, shuffle_node, meet_node}
use Rattle.sc_lineage.specs.Narrow.{narrow_stream}
use Rattle.sc_lineage.specs.Partitioners.{PartitionerData, partitioners_of}
use Rattle.sc_lineage.specs.ScriptData.{WorkData, count_step}
use Rattle.sc_lineage.specs.Shuffles.{dealing_of, met_stream, shuffled_stream}
use Rattle.sc_lineage.specs.Streams.{ended_stream, raises}

-- the stream of a partition, where each node's streams are given
abbrev pub stream_at : List (List Stream) → PlaceData → Stream
stream_at streams at = at_or (at_or streams at.node []) at.partition (ended_stream None)

-- how many streams a node has
abbrev pub stream_count : List (List Stream) → ℕ → ℕ
stream_count streams node = length (at_or streams node [])

-- the streams that partition p of a node reads, by each of its dependencies
abbrev pub streams_read :
    List PartitionerData → List (List Stream) → NodeData → ℕ → List (List Stream)
streams_read known streams node p =
    map (map (stream_at streams)) (reads_by known (stream_count streams) node p)

-- the bounds between n ranges of the keys of some partitions; none, where one of them raises
abbrev pub bounds_between : List Stream → ℕ → List KeyData
bounds_between streams n =
    if list_any raises streams then []
    else bounds_of (map key_of (flat_map (λ s. s.rows) streams)) n

-- the bounds of what a shuffle does, where the parent has these streams: a sort alone has some
abbrev pub bounds_of_shuffle : ShufflingData → List Stream → ℕ → List KeyData
bounds_of_shuffle (reduce_by_key e) streams n = []
bounds_of_shuffle group_by_key streams n = []
bounds_of_shuffle sort_by_key streams n = bounds_between streams n
bounds_of_shuffle repartition streams n = []

-- the bounds of a node, from the streams of the nodes before it
abbrev pub bounds_step : List (List Stream) → NodeData → List KeyData
bounds_step before (text_node name n) = []
bounds_step before (parallelize_node rows n) = []
bounds_step before (each_node kind parent e) = []
bounds_step before (union_node left right) = []
bounds_step before (coalesce_node parent n) = []
bounds_step before (cache_node parent) = []
bounds_step before (shuffle_node kind parent n) = bounds_of_shuffle kind (at_or before parent []) n
bounds_step before (meet_node kind left right n) = []

-- how many partitions a shuffle has: a sort one more than bounds
abbrev pub parts_of_shuffle : ShufflingData → ℕ → List KeyData → ℕ
parts_of_shuffle (reduce_by_key e) n bounds = n
parts_of_shuffle group_by_key n bounds = n
parts_of_shuffle sort_by_key n bounds = length bounds + 1
parts_of_shuffle repartition n bounds = n

-- How many partitions a node has, from those of the nodes before it and its bounds. It is as the
-- grammar counts, but for what follows from bounds.
abbrev pub parts_step : List KeyData → List ℕ → NodeData → ℕ
parts_step bounds before (text_node name n) = n
parts_step bounds before (parallelize_node rows n) = n
parts_step bounds before (each_node kind parent e) = at_or before parent 0
parts_step bounds before (union_node left right) = count_step before (union_node left right)
parts_step bounds before (coalesce_node parent n) = count_step before (coalesce_node parent n)
parts_step bounds before (cache_node parent) = at_or before parent 0
parts_step bounds before (shuffle_node kind parent n) = parts_of_shuffle kind n bounds
parts_step bounds before (meet_node kind left right n) = n

-- the streams that were read, one dependency after another
abbrev pub in_order : List (List Stream) → List Stream
in_order read = flat_map (λ streams. streams) read

-- the streams that were read by the first dependency, and by the second
abbrev pub first_read : List (List Stream) → List Stream
first_read read = at_or read 0 []

abbrev pub second_read : List (List Stream) → List Stream
second_read read = at_or read 1 []

-- the stream of partition p of a node, from inputs, from its bounds, and from the streams that the
-- partition reads by each dependency
abbrev pub node_stream : Files → List KeyData → NodeData → ℕ → List (List Stream) → Stream
node_stream inputs bounds (text_node name n) p read =
    narrow_stream inputs (text_node name n) p (in_order read)
node_stream inputs bounds (parallelize_node rows n) p read =
    narrow_stream inputs (parallelize_node rows n) p (in_order read)
node_stream inputs bounds (each_node kind parent e) p read =
    narrow_stream inputs (each_node kind parent e) p (in_order read)
node_stream inputs bounds (union_node left right) p read =
    narrow_stream inputs (union_node left right) p (in_order read)
node_stream inputs bounds (coalesce_node parent n) p read =
    narrow_stream inputs (coalesce_node parent n) p (in_order read)
node_stream inputs bounds (cache_node parent) p read =
    narrow_stream inputs (cache_node parent) p (in_order read)
node_stream inputs bounds (shuffle_node kind parent n) p read =
    shuffled_stream kind (dealing_of kind n bounds) p (first_read read)
node_stream inputs bounds (meet_node kind left right n) p read =
    met_stream kind n p (first_read read) (second_read read)

-- the streams of the partitions of a node, from those of all partitions of the nodes before it
abbrev pub streams_step :
    Files → List PartitionerData → List (List Stream) → NodeData → List Stream
streams_step inputs known before node =
    map (λ p. node_stream inputs (bounds_step before node) node p
    (streams_read known before node p))
    (numbers_below (parts_step (bounds_step before node) (map length before) node))

-- the streams of all nodes, a list for each node with a stream for each partition, where some
-- partitioners are known
abbrev pub meanings_by : List PartitionerData → WorkData → List (List Stream)
meanings_by known work = by_nodes (streams_step work.inputs known) work.script.nodes

-- the streams of a node
abbrev pub node_streams_by : List PartitionerData → WorkData → ℕ → List Stream
node_streams_by known work node = at_or (meanings_by known work) node []

-- the number of partitions of a node
abbrev pub part_count_by : List PartitionerData → WorkData → ℕ → ℕ
part_count_by known work node = length (node_streams_by known work node)

-- the stream of a partition
abbrev pub partition_stream_by : List PartitionerData → WorkData → ℕ → ℕ → Stream
partition_stream_by known work node p =
    at_or (node_streams_by known work node) p (ended_stream None)

-- The sequential meaning: every operation by key is a shuffle.
abbrev pub meanings : WorkData → List (List Stream)
meanings = meanings_by []

abbrev pub node_streams : WorkData → ℕ → List Stream
node_streams = node_streams_by []

abbrev pub part_count : WorkData → ℕ → ℕ
part_count = part_count_by []

abbrev pub partition_stream : WorkData → ℕ → ℕ → Stream
partition_stream = partition_stream_by []

-- the partitioners of a work's nodes
abbrev pub known_of : WorkData → List PartitionerData
known_of work = partitioners_of work.script.nodes

-- The local meaning: rows that already lie as an operation by key asks are read without a shuffle.
abbrev pub local_streams : WorkData → ℕ → List Stream
local_streams work = node_streams_by (known_of work) work

abbrev pub local_stream : WorkData → ℕ → ℕ → Stream
local_stream work = partition_stream_by (known_of work) work
