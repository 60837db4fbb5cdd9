use Rattle.sc_task.proofs.KeepingLemmas.{keep_step}
use Rattle.sc_task.proofs.keeping.keep_each.Goals as goal

pub loop-part-preserved : goal.loop-part-preserved
loop-part-preserved g c =
    keep_step c.args.store.now c.loop-part.store c.keep.new.store c.args.fresh.now
    c.loop-part.part-index c.part-item.result _ c.loop-part-test.true c.part-item.is
    c.loop-part.invariant c.in_ok-keep.ensures.kept
