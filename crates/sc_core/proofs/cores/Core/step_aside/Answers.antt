use Rattle.sc_core.specs.declared.events.Event.TheVariants.{Side}
use Rattle.sc_core.proofs.LawLemmas.{steps_keep_sound}
use Rattle.sc_core.proofs.cores.Core.step_aside.Goals as goal

pub invariant_of-self : goal.invariant_of-self
invariant_of-self c =
    steps_keep_sound c.self.inside.state.0 c.step_aside.new.self.0 (Side c.args.event)
    c.step_aside.result.answer c.self.invariant c.step_aside.ensures.steps
