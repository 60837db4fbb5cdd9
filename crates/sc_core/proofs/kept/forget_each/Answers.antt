use Rattle.std.proofs.Common.{None, refl}
use Rattle.sc_ids.proofs.ChangeLemmas.{map_loop}
use Rattle.sc_core.proofs.kept.forget_each.Goals as goal

pub loop-list-preserved : goal.loop-list-preserved
loop-list-preserved c =
    map_loop (λ _. None) c.args.lists.now c.loop-list.lists
    c.loop-list.list-index None c.list-item.result
    c.loop-list-test.true c.loop-list.invariant refl
