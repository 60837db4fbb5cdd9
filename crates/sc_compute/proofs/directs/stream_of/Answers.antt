use Rattle.std.proofs.Common.{◌∙◌, ap, sym, subst}
use Rattle.std.specs.Option.{option_copied}
use Rattle.sc_lineage.specs.NodeData.{shuffle_node, meet_node}
use Rattle.sc_lineage.specs.Views.{node_data_of, shuffling_data_of}
use Rattle.sc_compute.specs.Stages.{AreSides, node_at}
use Rattle.sc_compute.specs.declared.stages.Sides.{Sides}
use Rattle.sc_compute.proofs.MadeLemmas.{node_is_narrow, sides_are}
use Rattle.sc_compute.proofs.StreamLemmas.{met_gives, narrow_gives, shuffled_gives, some_parts}
use Rattle.sc_compute.proofs.directs.stream_of.Goals as goal

pub shuffled-requires : goal.shuffled-requires
shuffled-requires c =
    let is = sym c.node_in-node.ensures.at ∙ ap node_data_of c.in-One-Shuffle.is-1 in
    record {
      some_partitions =
          some_parts c.args.work.now c.is_sound.ensures.script c.args.at.node c.args.at.partition
          c.requires.node c.requires.partition
          (shuffle_node (shuffling_data_of c.in-One-Shuffle.kind) c.in-One-Shuffle.parent-1
          c.in-One-Shuffle.partitions) is;
    }

pub met-requires : goal.met-requires
met-requires c =
    let is = sym c.node_in-node.ensures.at ∙ ap node_data_of c.in-Two-Meet.is-1 in
    record {
      some_partitions =
          some_parts c.args.work.now c.is_sound.ensures.script c.args.at.node c.args.at.partition
          c.requires.node c.requires.partition
          (meet_node c.in-Two-Meet.kind c.in-Two-Meet.left-1 c.in-Two-Meet.right-1
          c.in-Two-Meet.partitions) is;
    }

pub returns-in-One-Shuffle : goal.returns-in-One-Shuffle
returns-in-One-Shuffle c =
    let work = c.args.work.now in
    let k = c.args.at.node in
    let p = c.args.at.partition in
    let arm = c.in-One-Shuffle in
    let is = sym c.node_in-node.ensures.at ∙ ap node_data_of arm.is-1 in
    let P : Sides → Type 0 = λ sides. AreSides work (node_at work k) sides in
    let are =
    subst P arm.is-0 (sides_are work c.is_sound.ensures.script k p c.requires.node
    c.requires.partition c.args.stages.now c.requires.right c.requires.made
    c.made_for.result.now c.made_for.ensures) in
    shuffled_gives work c.is_sound.ensures.script k p c.requires.node c.requires.partition
    (shuffling_data_of arm.kind) arm.parent-1 arm.partitions arm.input is are c.args.inputs.now
    c.requires.inputs (option_copied c.first.result) c.read_from-from.result c.shuffled.result
    c.first.ensures.value c.read_from-from.ensures c.shuffled.ensures

pub returns-in-Two-Meet : goal.returns-in-Two-Meet
returns-in-Two-Meet c =
    let work = c.args.work.now in
    let k = c.args.at.node in
    let p = c.args.at.partition in
    let arm = c.in-Two-Meet in
    let is = sym c.node_in-node.ensures.at ∙ ap node_data_of arm.is-1 in
    let P : Sides → Type 0 = λ sides. AreSides work (node_at work k) sides in
    let are =
    subst P arm.is-0 (sides_are work c.is_sound.ensures.script k p c.requires.node
    c.requires.partition c.args.stages.now c.requires.right c.requires.made
    c.made_for.result.now c.made_for.ensures) in
    met_gives work c.is_sound.ensures.script k p c.requires.node c.requires.partition arm.kind
    arm.left-1 arm.right-1 arm.partitions arm.first arm.second is are c.args.inputs.now
    c.requires.inputs (option_copied c.first-in-Two-Meet.result) (option_copied c.last.result)
    c.read_from-left.result c.read_from-right.result c.met.result
    c.first-in-Two-Meet.ensures.value c.last.ensures.value c.read_from-left.ensures
    c.read_from-right.ensures c.met.ensures

pub returns-in-Narrow-default : goal.returns-in-Narrow-default
returns-in-Narrow-default c =
    let work = c.args.work.now in
    let k = c.args.at.node in
    let p = c.args.at.partition in
    let narrow =
    node_is_narrow work c.is_sound.ensures.script k p c.requires.node c.requires.partition
    c.args.stages.now c.requires.right c.requires.made c.made_for.result.now c.made_for.ensures
    c.in-Narrow-default.is-0 in
    narrow_gives work c.is_sound.ensures.script k p c.requires.node c.requires.partition
    c.args.inputs.now c.run_node.result narrow c.requires.inputs c.run_node.ensures
