use Rattle.std.proofs.Common.{◌≡◌, [], map, drop}
use Rattle.std.specs.List.{flat_map}
use Rattle.sc_lineage.specs.ScriptData.{names_of_node}
use Rattle.sc_lineage.specs.Views.{node_data_of}
use Rattle.sc_read.specs.Naming.{with_names}
use Rattle.sc_read.proofs.naming.names_of.Given as goal

abbrev pub invariant-loop-node : goal.invariant-loop-node
invariant-loop-node l =
    with_names l.names.items (flat_map names_of_node
    (map node_data_of (drop l.node-index l.node-items)))
    ≡ with_names [] (flat_map names_of_node (map node_data_of l.node-items))
