use Rattle.sc_core.proofs.KeptLemmas.{result_inputs}
use Rattle.sc_core.proofs.stages.Stages.result_success.Goals as goal

pub invariant_of-self : goal.invariant_of-self
invariant_of-self c =
    rw c.result_success.ensures.state
    (result_inputs c.self.inside.dag.0 c.args.attempt c.args.now c.self.inside.kept
    c.self.invariant)

pub returns-clause-state : goal.returns-clause-state
returns-clause-state c = rw (← c.self.view_is) c.result_success.ensures.state
