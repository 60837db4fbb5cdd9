use Rattle.sc_dag.specs.Submission.{this_stage}
use Rattle.sc_core.proofs.KeptLemmas.{submitted_inputs}
use Rattle.sc_core.proofs.stages.Stages.submit_result.Goals as goal

pub invariant_of-self : goal.invariant_of-self
invariant_of-self c =
    submitted_inputs c.self.inside.dag.0 c.submit.new.self.0
    (this_stage c.last_stage-stage.result) c.self.inside.kept c.submit.ensures c.self.invariant
