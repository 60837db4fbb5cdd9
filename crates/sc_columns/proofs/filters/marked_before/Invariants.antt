use Rattle.std.proofs.Common.{◌≡◌, ◌≤◌, ◌++◌, drop, replicate}
use Rattle.sc_value.specs.Datum.{Datum}
use Rattle.sc_value.specs.Kept.{kept}
use Rattle.sc_columns.proofs.filters.marked_before.Given as goal

abbrev pub invariant-loop-i : goal.invariant-loop-i
invariant-loop-i l = record {
  few : l.count ≤ l.i;
  kept : (x : Datum) → replicate l.count x ++ kept (drop l.i l.marks) (drop l.i (replicate l.end x))
      ≡ kept l.marks (replicate l.end x);
}
