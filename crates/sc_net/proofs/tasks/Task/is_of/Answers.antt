use Rattle.sc_net.specs.Equality.{same_task-decides}
use Rattle.sc_net.specs.Tasks.{task_data}
use Rattle.sc_net.proofs.tasks.Task.is_of.Goals as goal

pub returns-clause-same : goal.returns-clause-same
returns-clause-same g c =
    rw c.has_parts.ensures
    (same_task-decides c.args.self.now (task_data c.args.job.now c.args.hand_out.now))
