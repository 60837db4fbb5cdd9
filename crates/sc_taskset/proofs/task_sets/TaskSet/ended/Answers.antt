use Rattle.sc_taskset.proofs.SetLemmas.{held_kept, keeps_ended}
use Rattle.sc_taskset.proofs.task_sets.TaskSet.ended.Goals as goal

pub invariant_of-self : goal.invariant_of-self
invariant_of-self c =
    rw (c.end_in.ensures c.self.inside.failures.items)
    (held_kept _ c.args.partition _ (keeps_ended c.args.nth) c.self.invariant)
