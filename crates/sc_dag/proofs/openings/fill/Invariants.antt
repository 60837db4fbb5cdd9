use Rattle.std.proofs.Common.{◌≡◌, ◌++◌, ◌-◌, ◌≤◌, length, replicate}
use Rattle.std.specs.Option.{option_map}
use Rattle.sc_dag.specs.DagData.{no_stage}
use Rattle.sc_dag.specs.Rows.{AreBlank, stages_of}
use Rattle.sc_dag.proofs.openings.fill.Given as goal

abbrev pub invariant-loop-alloc : goal.invariant-loop-alloc
invariant-loop-alloc l = record {
  stages : stages_of l.rows.items
      ≡ stages_of l.fn.rows.items
      ++ replicate (length l.rows.items - length l.fn.rows.items) no_stage;
  blank : AreBlank (option_map (λ d. d.now.0) l.last) l.rows.items;
  below : length l.rows.items ≤ l.end;
  more : length l.fn.rows.items ≤ length l.rows.items;
}

abbrev pub decreases-loop-alloc : goal.decreases-loop-alloc
decreases-loop-alloc l = l.end - length l.rows.items
