use Rattle.std.proofs.Common.{◌∙◌, Some, ap}
use Rattle.sc_lineage.specs.NodeData.{shuffle_node, meet_node}
use Rattle.sc_lineage.specs.Views.{node_data_of, shuffling_data_of}
use Rattle.sc_compute.proofs.NodeLemmas.{IsNode, some_parts}
use Rattle.sc_compute.proofs.mapping.map_output.Goals as goal

pub output_of-requires : goal.output_of-requires
output_of-requires c =
    let arm = c.in-Shuffle in
    let at : IsNode c.args.work.now c.args.at.node
    (shuffle_node (shuffling_data_of arm.kind) arm.parent arm.partitions) = record {
      sound = c.is_sound.ensures.script;
      known = c.requires.known;
      is = c.node_in.ensures.found ∙ ap (λ n. Some (node_data_of n)) arm.is;
    } in
    record { some_partitions = some_parts at }

pub output_of-requires-in-Meet :
    goal.output_of-requires-in-Meet
output_of-requires-in-Meet c =
    let arm = c.in-Meet in
    let at : IsNode c.args.work.now c.args.at.node
    (meet_node arm.kind arm.left arm.right arm.partitions) = record {
      sound = c.is_sound.ensures.script;
      known = c.requires.known;
      is = c.node_in.ensures.found ∙ ap (λ n. Some (node_data_of n)) arm.is;
    } in
    record { some_partitions = some_parts at }
