use Rattle.std.proofs.Common.{◌≡◌, ◌^◌, ◌≤◌, length, take}
use Rattle.std.specs.Option.{option_map}
use Rattle.sc_dag.specs.Openings.{number_behind}
use Rattle.sc_dag.specs.Rows.{AreBlank, stages_of}
use Rattle.sc_dag.proofs.OpenLemmas.{StandAt}
use Rattle.sc_dag.proofs.openings.rows_of.Given as goal

-- the stages so far stand at their numbers
abbrev pub invariant-loop-stage : goal.invariant-loop-stage
invariant-loop-stage l = record {
  stand : StandAt (take l.stage-index l.graph) (stages_of l.rows.items);
  behind : length l.rows.items ≡ number_behind (take l.stage-index l.graph);
  blank : AreBlank (option_map (λ d. d.now.0) l.last) l.rows.items;
  few : length l.rows.items ≤ 2 ^ 32;
}
