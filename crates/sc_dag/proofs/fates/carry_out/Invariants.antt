use Rattle.std.proofs.Common.{◌≡◌, ◌++◌, drop, length, take}
use Rattle.sc_dag.specs.Rows.{dag_of, is_looked_at, stages_of, states_of}
use Rattle.sc_dag.specs.Submission.{by_number, moved_if}
use Rattle.sc_dag.proofs.fates.carry_out.Given as goal

-- the stages below this one are moved, and the others are as they were
abbrev pub invariant-loop-k : goal.invariant-loop-k
invariant-loop-k l = record {
  states : states_of l.rows.items
      ≡ by_number (moved_if (dag_of l.fn.rows.items l.tracker l.limits) (is_looked_at l.fates)) 0
      (take l.k (states_of l.fn.rows.items))
      ++ drop l.k (states_of l.fn.rows.items);
  stages : stages_of l.rows.items ≡ stages_of l.fn.rows.items;
  rest : drop l.k l.rows.items ≡ drop l.k l.fn.rows.items;
  len : length l.rows.items ≡ length l.fn.rows.items;
}
