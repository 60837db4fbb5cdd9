use Rattle.sc_ids.proofs.ChangeLemmas.{map_loop}
use Rattle.sc_core.specs.Saving.{as_far}
use Rattle.sc_core.proofs.saving.take_each_to.Goals as goal

pub loop-one-preserved : goal.loop-one-preserved
loop-one-preserved c =
    map_loop (as_far c.args.attempt c.args.phase) c.args.running.now c.loop-one.running
    c.loop-one.one-index c.take_one_to.new.running c.one-item.result
    c.loop-one-test.true c.loop-one.invariant c.take_one_to.ensures
