use Rattle.sc_ids.proofs.ChangeLemmas.{map_loop}
use Rattle.sc_core.specs.CoreData.{as_in}
use Rattle.sc_core.proofs.shelves.hand_in_each.Goals as goal

pub loop-one-preserved : goal.loop-one-preserved
loop-one-preserved c =
    map_loop (as_in c.args.attempt) c.args.running.now c.loop-one.running
    c.loop-one.one-index c.hand_in_one.new.running c.one-item.result
    c.loop-one-test.true c.loop-one.invariant c.hand_in_one.ensures
