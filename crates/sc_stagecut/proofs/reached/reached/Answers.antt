use Rattle.std.proofs.Common.{arith, rules, ◌∙◌}
use Rattle.sc_stagecut.specs.Reaching.{followed_from}
use Rattle.sc_stagecut.proofs.DependencyLemmas.{followed_before}
use Rattle.sc_stagecut.proofs.MarkLemmas.{passes-all, passes-down_marked, passes-down_unmarked}
use Rattle.sc_stagecut.proofs.reached.reached.Goals as goal

pub loop-node-preserved-then-is_marked : goal.loop-node-preserved-then-is_marked
loop-node-preserved-then-is_marked c =
    let nodes = c.args.script.now.nodes in
    let node = c.loop-node.node in
    record {
      same = c.mark_parents.ensures.same ∙ c.loop-node.invariant.same;
      within = omega (arith, c.loop-node.invariant.within);
      passes =
          passes-down_marked (followed_from c.args.follow nodes) c.args.from
          (followed_before c.args.script.now c.is_sound.ensures c.args.follow) node
          c.loop-node.marks.items c.mark_parents.new.marks.items (search rules)
          c.loop-node.invariant.passes (search rules) c.mark_parents.ensures;
    }

pub loop-node-preserved : goal.loop-node-preserved
loop-node-preserved c =
    let nodes = c.args.script.now.nodes in
    record {
      same = c.loop-node.invariant.same;
      within = omega (arith, c.loop-node.invariant.within);
      passes =
          passes-down_unmarked (followed_from c.args.follow nodes) c.args.from
          (followed_before c.args.script.now c.is_sound.ensures c.args.follow) c.loop-node.node
          c.loop-node.marks.items (search rules) c.loop-node.invariant.passes (search rules);
    }

pub returns : goal.returns
returns c =
    passes-all (followed_from c.args.follow c.args.script.now.nodes) c.args.from
    (followed_before c.args.script.now c.is_sound.ensures c.args.follow) c.loop-node.node
    c.loop-node.marks.items c.loop-node-test.false c.loop-node.invariant.passes
