use Rattle.std.proofs.Common.{ℕ, arith, get_or, subst}
use Rattle.sc_base.specs.Lists.{at_or}
use Rattle.sc_ids.specs.declared.blocks.Target.TheVariants as targets
use Rattle.sc_stagecut.specs.Counting.{IsCountedStage}
use Rattle.sc_stagecut.specs.Cuts.{IsStage}
use Rattle.sc_stagecut.specs.Numbering.{numbered, side_of}
use Rattle.sc_stagecut.proofs.ListLemmas.{AllZip-more}
use Rattle.sc_stagecut.proofs.StageLemmas.{mapped_before, shuffle_there}
use Rattle.sc_stagecut.proofs.stages.map_stages.Goals as goal

pub stage-requires : goal.stage-requires
stage-requires c =
    let none = numbered (side_of 0 0) 0 in
    let one = get_or c.args.numbers.now c.loop-numbered.numbered-index none in
    let is = c.requires.shuffles c.loop-numbered.numbered-index none c.loop-numbered-test.true in
    let before = mapped_before c.args.script.now c.requires.sound one.shuffle is in
    let there = shuffle_there c.args.script.now c.requires.sound one.shuffle is in
    omega (arith, before, there, c.mapped_node-node.ensures)

pub loop-numbered-preserved : goal.loop-numbered-preserved
loop-numbered-preserved c =
    let none = numbered (side_of 0 0) 0 in
    let nodes = c.args.script.now.nodes in
    let numbers = c.args.numbers.now in
    let one = get_or numbers c.loop-numbered.numbered-index none in
    let ordered = c.args.ordered.now in
    let P : ℕ → Type 0 = λ node.
    IsStage nodes ordered one.stage (targets.Map one.shuffle) node
    (at_or c.args.counts.now node 0) c.in_ok-stage.field-0 in
    AllZip-more (IsCountedStage nodes c.args.counts.now ordered) numbers c.loop-numbered.graph
    c.push.new.self c.loop-numbered.numbered-index none c.in_ok-stage.field-0
    c.loop-numbered-test.true c.loop-numbered.invariant
    (subst P c.mapped_node-node.ensures c.in_ok-stage.ensures) c.in_ok-push.ensures
