use Rattle.std.proofs.Common.{◌≡◌, take}
use Rattle.std.specs.List.{flat_map}
use Rattle.sc_core.specs.HandOuts.{locations_by}
use Rattle.sc_dag.specs.DagData.{stage_at}
use Rattle.sc_core.proofs.inputs.inputs_in.Given as goal

abbrev pub invariant-loop-parent : goal.invariant-loop-parent
invariant-loop-parent l =
    l.inputs.items ≡ flat_map
    (λ p. locations_by l.dag.0.tracker (stage_at l.dag.0 p).target (stage_at l.dag.0 p).tasks)
    (take l.parent-index l.parent-items)
