use Rattle.std.proofs.Common.{◌∙◌, List, ℕ, map, ap, sym, arith}
use Rattle.std.proofs.lemmas.List.{at_drop_all}
use Rattle.std.specs.List.{flat_map}
use Rattle.sc_base.specs.Lists.{firsts}
use Rattle.sc_lineage.specs.NodeData.{NodeData}
use Rattle.sc_lineage.specs.ScriptData.{names_of_node}
use Rattle.sc_lineage.specs.Views.{node_data_of}
use Rattle.sc_lineage.specs.declared.nodes.Node.{Node}
use Rattle.sc_read.specs.Naming.{with_names}
use Rattle.sc_read.proofs.NamingLemmas.{noted-all}
use Rattle.sc_read.proofs.naming.names_of.Goals as goal

pub returns : goal.returns
returns c =
    let nodes = c.nodes-node-items.result.now in
    let names_in : List Node → List (List ℕ) =
    λ ns. with_names c.loop-node.names.items (flat_map names_of_node (map node_data_of ns)) in
    sym (at_drop_all names_in nodes c.loop-node.node-index (omega arith))
    ∙ c.loop-node.invariant
    ∙ noted-all (flat_map names_of_node (map node_data_of nodes))
    ∙ ap (λ (ns : List NodeData). firsts (flat_map names_of_node ns)) c.nodes-node-items.ensures
