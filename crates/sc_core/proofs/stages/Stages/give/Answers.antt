use Rattle.sc_core.proofs.KeptLemmas.{given_inputs}
use Rattle.sc_core.proofs.stages.Stages.give.Goals as goal

pub invariant_of-self : goal.invariant_of-self
invariant_of-self c =
    given_inputs c.self.inside.dag.0 c.give.new.self.0 c.args.attempt c.args.exec c.args.now
    c.give.result c.self.inside.kept c.give.ensures.given c.give.ensures.refused c.self.invariant
