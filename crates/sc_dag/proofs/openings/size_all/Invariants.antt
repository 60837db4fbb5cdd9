use Rattle.std.proofs.Common.{◌≡◌, drop}
use Rattle.sc_dag.specs.Openings.{sized_for_all}
use Rattle.sc_dag.proofs.openings.size_all.Given as goal

-- room for the rest is room for all
abbrev pub invariant-loop-stage : goal.invariant-loop-stage
invariant-loop-stage l =
    sized_for_all l.tracker (drop l.stage-index l.graph) ≡ sized_for_all l.fn.tracker l.graph
