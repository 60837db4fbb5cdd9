use Rattle.sc_core.proofs.KeptLemmas.{map_inputs}
use Rattle.sc_core.proofs.stages.Stages.register.Goals as goal

pub invariant_of-self : goal.invariant_of-self
invariant_of-self c =
    rw c.map_success-success.ensures.state
    (map_inputs c.self.inside.dag.0 c.args.attempt c.args.loc c.args.epoch c.args.now
    c.self.inside.kept c.forget_after.new.self c.self.invariant
    (λ h. c.forget_after.ensures.forgets (rw c.map_success-success.ensures.answer h))
    (λ h. c.forget_after.ensures.keeps (rw c.map_success-success.ensures.answer h)))
