use Rattle.sc_taskset.proofs.SetLemmas.{held_kept, keeps_held}
use Rattle.sc_taskset.proofs.task_sets.TaskSet.held.Goals as goal

pub invariant_of-self : goal.invariant_of-self
invariant_of-self c =
    rw (c.hold_in.ensures c.self.inside.failures.items)
    (held_kept _ c.args.partition _ (keeps_held c.args.denied) c.self.invariant)
