use Rattle.std.proofs.Common.{◌≡◌, ◌≤◌, length}
use Rattle.sc_dag.specs.Rows.{AreFatesFrom, is_submitted, outlook}
use Rattle.sc_dag.proofs.fates.note_fates.Given as goal

-- what becomes of the stages from here on is noted
abbrev pub invariant-loop-k : goal.invariant-loop-k
invariant-loop-k l = record {
  are : AreFatesFrom (outlook l.rows l.tracker)
      (is_submitted l.submitted (outlook l.rows l.tracker)) l.k l.fates.items;
  len : length l.fates.items ≡ length l.fn.fates.items;
  below : l.k ≤ length l.rows;
}

abbrev pub decreases-loop-k : goal.decreases-loop-k
decreases-loop-k l = l.k
