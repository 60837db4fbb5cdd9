use Rattle.std.proofs.Common.{◌≡◌, ◌∙◌, ℕ, ◌<◌, [], ◌∷◌, Some, length, refl, ap, sym, subst, arith}
use Rattle.std.proofs.lemmas.List.Elements.{All-head, All-tail}
use Rattle.sc_lineage.specs.NodeData.{group_by_key, shuffle_node, meet_node}
use Rattle.sc_lineage.specs.ScriptData.{count_step}
use Rattle.sc_lineage.specs.Views.{node_data_of, shuffling_data_of}
use Rattle.sc_lineage.specs.Partitioners.{hash_partitioner, partitioner_of_shuffle}
use Rattle.sc_compute.specs.Stages.{AreSides, local_count}
use Rattle.sc_compute.specs.declared.stages.Sides.TheVariants as sides
use Rattle.sc_compute.proofs.InputLemmas.{lies_unhanded}
use Rattle.sc_compute.proofs.NodeLemmas.{IsNode, count_fits, count_is, narrow_else, narrow_is, narrow_sides, node_is, parents_known, side_is, some_parts}
use Rattle.sc_compute.proofs.making.make.Goals as goal

pub input_of-requires : goal.input_of-requires
input_of-requires c =
    let stages = c.args.stages.now in
    let parent = c.in-Shuffle.parent in
    let node = shuffle_node (shuffling_data_of c.in-Shuffle.kind) parent c.in-Shuffle.partitions in
    let at : IsNode c.args.work.now c.args.node node = record {
      sound = c.is_sound.ensures.script;
      known = c.requires.known;
      is = c.node_in.ensures.found ∙ ap (λ n. Some (node_data_of n)) c.in-Shuffle.is;
    } in
    record {
      known = All-head (λ q. q < length c.args.work.now.script.nodes) parent [] (parents_known at);
      right = c.requires.right;
      side = side_is at 0 (shuffling_data_of c.in-Shuffle.kind) parent c.in-Shuffle.partitions
          (refl, refl, refl);
      lies = lies_unhanded c.args.work.now stages c.args.node 0 node
          (partitioner_of_shuffle (shuffling_data_of c.in-Shuffle.kind) c.in-Shuffle.partitions)
          parent (node_is at) c.requires.sides (λ goes. goes);
      some_partitions = some_parts at;
    }

pub input_of-requires-in-Meet : goal.input_of-requires-in-Meet
input_of-requires-in-Meet c =
    let stages = c.args.stages.now in
    let left = c.in-Meet.left in
    let right = c.in-Meet.right in
    let node = meet_node c.in-Meet.kind left right c.in-Meet.partitions in
    let at : IsNode c.args.work.now c.args.node node = record {
      sound = c.is_sound.ensures.script;
      known = c.requires.known;
      is = c.node_in.ensures.found ∙ ap (λ n. Some (node_data_of n)) c.in-Meet.is;
    } in
    record {
      known = All-head (λ q. q < length c.args.work.now.script.nodes) left (right ∷ [])
          (parents_known at);
      right = c.requires.right;
      side = side_is at 0 group_by_key left c.in-Meet.partitions (refl, refl, refl);
      lies = lies_unhanded c.args.work.now stages c.args.node 0 node
          (hash_partitioner c.in-Meet.partitions) left (node_is at) c.requires.sides (λ goes. goes);
      some_partitions = some_parts at;
    }

pub input_of-requires-in-Meet-2 : goal.input_of-requires-in-Meet-2
input_of-requires-in-Meet-2 c =
    let stages = c.args.stages.now in
    let left = c.in-Meet.left in
    let right = c.in-Meet.right in
    let node = meet_node c.in-Meet.kind left right c.in-Meet.partitions in
    let at : IsNode c.args.work.now c.args.node node = record {
      sound = c.is_sound.ensures.script;
      known = c.requires.known;
      is = c.node_in.ensures.found ∙ ap (λ n. Some (node_data_of n)) c.in-Meet.is;
    } in
    let known : ℕ → Type 0 = λ q. q < length c.args.work.now.script.nodes in
    record {
      known = All-head known right [] (All-tail known left (right ∷ []) (parents_known at));
      right = c.requires.right;
      side = side_is at 1 group_by_key right c.in-Meet.partitions (refl, refl, refl);
      lies = lies_unhanded c.args.work.now stages c.args.node 1 node
          (hash_partitioner c.in-Meet.partitions) right (node_is at) c.requires.sides
          (λ goes. goes);
      some_partitions = some_parts at;
    }

pub narrow_count-requires : goal.narrow_count-requires
narrow_count-requires c =
    let work = c.args.work.now in
    let node = node_data_of c.node_in.result.now in
    let at : IsNode work c.args.node node = record {
      sound = c.is_sound.ensures.script;
      known = c.requires.known;
      is = c.node_in.ensures.found;
    } in
    let narrow =
    narrow_else c.node_in.result.now c.in_default.not-Shuffle c.in_default.not-Meet in
    let count : count_step c.counts.result.now node ≡ local_count work c.args.node =
    ap (λ counts. count_step counts node) c.counts.ensures
    ∙ narrow_is at c.args.stages.now c.requires.right narrow c.requires.parents in
    let few = count_fits at in
    record { narrow = narrow; fits = omega (arith, count, few) }

pub returns-in_ok-count-in-Shuffle : goal.returns-in_ok-count-in-Shuffle
returns-in_ok-count-in-Shuffle c =
    let work = c.args.work.now in
    let input = c.in_ok-count-in-Shuffle.input in
    let node =
    shuffle_node (shuffling_data_of c.in-Shuffle.kind) c.in-Shuffle.parent c.in-Shuffle.partitions
    in
    let at : IsNode work c.args.node node = record {
      sound = c.is_sound.ensures.script;
      known = c.requires.known;
      is = c.node_in.ensures.found ∙ ap (λ n. Some (node_data_of n)) c.in-Shuffle.is;
    } in
    record {
      count = c.in_ok-count-in-Shuffle.ensures.count
          ∙ sym (count_is at);
      are = subst (λ n. AreSides work n (sides.One input))
          (sym (node_is at))
          c.in_ok-count-in-Shuffle.ensures.input;
      read = c.in_ok-count-in-Shuffle.ensures.read;
    }

pub returns-in_ok-second-in-Meet : goal.returns-in_ok-second-in-Meet
returns-in_ok-second-in-Meet c =
    let work = c.args.work.now in
    let first = c.in_ok-first-in-Meet.first in
    let second = c.in_ok-second-in-Meet.second in
    let node = meet_node c.in-Meet.kind c.in-Meet.left c.in-Meet.right c.in-Meet.partitions in
    let at : IsNode work c.args.node node = record {
      sound = c.is_sound.ensures.script;
      known = c.requires.known;
      is = c.node_in.ensures.found ∙ ap (λ n. Some (node_data_of n)) c.in-Meet.is;
    } in
    record {
      count = sym (count_is at);
      are = subst (λ n. AreSides work n (sides.Two first second))
          (sym (node_is at))
          (c.in_ok-first-in-Meet.ensures.input, c.in_ok-second-in-Meet.ensures.input);
      read = (c.in_ok-first-in-Meet.ensures.read, c.in_ok-second-in-Meet.ensures.read);
    }

pub returns-in_default : goal.returns-in_default
returns-in_default c =
    let work = c.args.work.now in
    let node = node_data_of c.node_in.result.now in
    let at : IsNode work c.args.node node = record {
      sound = c.is_sound.ensures.script;
      known = c.requires.known;
      is = c.node_in.ensures.found;
    } in
    let narrow =
    narrow_else c.node_in.result.now c.in_default.not-Shuffle c.in_default.not-Meet in
    record {
      count = c.narrow_count.ensures ∙ ap (λ counts. count_step counts node) c.counts.ensures
          ∙ narrow_is at c.args.stages.now c.requires.right narrow c.requires.parents;
      are = subst (λ n. AreSides work n sides.Narrow)
          (sym (node_is at))
          (narrow_sides work node narrow);
      read = tt;
    }
