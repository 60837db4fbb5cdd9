use Rattle.sc_task.proofs.KeepingLemmas.{use_step}
use Rattle.sc_task.proofs.keeping.mark_used.Goals as goal

pub loop-part-preserved : goal.loop-part-preserved
loop-part-preserved g c =
    use_step c.args.store.now c.loop-part.store c.mark_used.new.self c.args.used.now
    c.loop-part.part-index c.part-item.result _ c.loop-part-test.true c.part-item.is
    c.name_of.result c.name_of.ensures c.loop-part.invariant c.mark_used.ensures
