use Rattle.std.proofs.Common.{rules}
use Rattle.sc_stagecut.specs.Marking.{is_fresh}
use Rattle.sc_stagecut.proofs.NumberLemmas.{filter_sides-more}
use Rattle.sc_stagecut.proofs.numbers.fresh.Goals as goal

pub loop-node-preserved : goal.loop-node-preserved
loop-node-preserved c =
    filter_sides-more (is_fresh c.args.script.now.nodes c.args.marks.now c.args.carried.now.stages)
    c.loop-node.node c.loop-node.fresh.items c.push_if.new.shuffles.items
    c.push_if-in-loop-node.new.shuffles.items c.loop-node.invariant (search rules) (search rules)
