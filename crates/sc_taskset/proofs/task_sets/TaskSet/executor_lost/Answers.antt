use Rattle.std.proofs.Common.{arith}
use Rattle.sc_taskset.proofs.LossLemmas.{on_seen}
use Rattle.sc_taskset.proofs.SetLemmas.{held_loss}
use Rattle.sc_taskset.proofs.task_sets.TaskSet.executor_lost.Goals as goal

pub invariant_of-self : goal.invariant_of-self
invariant_of-self g c =
    rw (c.lose.ensures.rows c.self.inside.failures.items, c.redoes_lost-redoes.ensures)
    (held_loss _ c.args.exec c.self.invariant)

pub returns-clause-looked : goal.returns-clause-looked
returns-clause-looked g c =
    let s = c.self.inside in
    let looked = c.lose.ensures.looked in
    let seen = on_seen c.args.exec s.failures.items s.rows in
    rw (← c.self.view_is) (omega (arith, looked, seen))
