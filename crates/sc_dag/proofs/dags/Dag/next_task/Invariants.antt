use Rattle.std.proofs.Common.{ℕ, ◌<◌, None}
use Rattle.sc_dag.specs.DagData.{newest_at}
use Rattle.sc_dag.specs.Offers.{OffersIn}
use Rattle.sc_dag.proofs.dags.Dag.next_task.Given as goal

-- no stage below this one has a task
abbrev pub invariant-loop-k : goal.invariant-loop-k
invariant-loop-k l = (q : ℕ) → q < l.k → OffersIn (newest_at l.self.0 q) l.exec l.now None
