use Rattle.std.proofs.Common.{ap}
use Rattle.sc_dag.specs.DagData.{DagData}
use Rattle.sc_core.proofs.KeptLemmas.{same_inputs}
use Rattle.sc_core.proofs.stages.Stages.failed.Goals as goal

pub invariant_of-self : goal.invariant_of-self
invariant_of-self c =
    same_inputs c.self.inside.dag.0 c.failed.new.self.0 c.self.inside.kept
    (ap (λ (d : DagData). d.stages) c.failed.ensures.state)
    (ap (λ (d : DagData). d.tracker) c.failed.ensures.state) c.self.invariant
