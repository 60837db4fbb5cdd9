use Rattle.std.proofs.Common.{rules}
use Rattle.std.specs.Option.{option_map}
use Rattle.sc_stagecut.proofs.CountLemmas.{counted-more}
use Rattle.sc_stagecut.proofs.counts.counts.Goals as goal

pub loop-node-preserved : goal.loop-node-preserved
loop-node-preserved c =
    counted-more c.args.carried.now.bounds c.nodes-nodes.result.now c.loop-node.node-index
    c.in_ok-count.count c.node-item.result c.loop-node.counts.items c.push.new.self.items
    (option_map (λ b. b.now) c.bounds.result) c.loop-node-test.true c.node-item.is
    c.loop-node.invariant (search rules) (search rules) c.in_ok-push.ensures.items
