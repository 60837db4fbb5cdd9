use Rattle.std.proofs.Common.{arith}
use Rattle.sc_stagecut.proofs.StageLemmas.{lacks_below}
use Rattle.sc_stagecut.proofs.sorts.unbounded_sort.Goals as goal

pub returns : goal.returns
returns c =
    lacks_below c.args.work.now.script c.is_sound.ensures.script c.args.carried.now c.args.node
    c.loop-sort.sort (omega (arith, c.loop-sort-test.false, c.from-sort-end.ensures))
    c.loop-sort.invariant
