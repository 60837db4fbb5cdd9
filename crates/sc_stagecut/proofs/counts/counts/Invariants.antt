use Rattle.std.proofs.Common.{◌≡◌, map, take}
use Rattle.sc_lineage.specs.ByNodes.{by_nodes}
use Rattle.sc_lineage.specs.Views.{node_data_of}
use Rattle.sc_stagecut.specs.Counting.{counted_step}
use Rattle.sc_stagecut.proofs.counts.counts.Given as goal

abbrev pub invariant-loop-node : goal.invariant-loop-node
invariant-loop-node l =
    l.counts.items
    ≡ by_nodes (counted_step l.carried.bounds) (map node_data_of (take l.node-index l.nodes))
