use Rattle.std.proofs.Common.{arith, rules}
use Rattle.sc_stagecut.specs.Numbering.{side_of}
use Rattle.sc_stagecut.proofs.NumberLemmas.{numbered_from-more}
use Rattle.sc_stagecut.proofs.numbers.number.Goals as goal

pub loop-shuffle-preserved : goal.loop-shuffle-preserved
loop-shuffle-preserved c = record {
  so_far =
      numbered_from-more c.args.numbered.now.items c.loop-shuffle.numbered.items
      c.push.new.self.items c.args.first c.in_ok-stage.stage c.loop-shuffle.shuffle-index
      c.args.fresh.now (side_of 0 0) c.loop-shuffle-test.true c.loop-shuffle.invariant.so_far
      (search rules) c.in_ok-push.ensures.items;
  number = omega (arith, c.loop-shuffle.invariant.number);
}
