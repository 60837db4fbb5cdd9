use Rattle.std.proofs.Common.{◌≡◌, take, true, length}
use Rattle.std.specs.List.{list_all}
use Rattle.sc_dag.specs.Rows.{ready_of, stages_of, states_of}
use Rattle.sc_dag.proofs.stages.prepare_all.Given as goal

abbrev pub invariant-loop-k : goal.invariant-loop-k
invariant-loop-k l = record {
  states : states_of l.rows.items ≡ states_of l.fn.rows.items;
  stages : stages_of l.rows.items ≡ stages_of l.fn.rows.items;
  ready : list_all (λ b. b) (take l.k (ready_of l.rows.items)) ≡ true;
  len : length l.rows.items ≡ length l.fn.rows.items;
}
