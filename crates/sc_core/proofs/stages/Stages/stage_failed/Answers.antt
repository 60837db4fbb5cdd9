use Rattle.sc_core.proofs.KeptLemmas.{failed_inputs}
use Rattle.sc_core.proofs.stages.Stages.stage_failed.Goals as goal

pub invariant_of-self : goal.invariant_of-self
invariant_of-self c =
    failed_inputs c.self.inside.dag.0 c.stage_failed.new.self.0 c.args.stage c.args.number
    c.stage_failed.result c.self.inside.kept c.stage_failed.ensures c.self.invariant
