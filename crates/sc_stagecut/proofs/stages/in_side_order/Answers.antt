use Rattle.std.proofs.Common.{rules}
use Rattle.sc_stagecut.proofs.NumberLemmas.{in_side_order-more}
use Rattle.sc_stagecut.proofs.stages.in_side_order.Goals as goal

pub loop-node-preserved : goal.loop-node-preserved
loop-node-preserved c =
    in_side_order-more c.args.numbers.now c.loop-node.node c.loop-node.ordered.items
    c.push_side.new.ordered.items c.push_side-in-loop-node.new.ordered.items
    c.loop-node.invariant (search rules) (search rules)
