use Rattle.sc_core.specs.declared.events.Event.TheVariants.{Post, Release, Side, Take, TellLost}
use Rattle.sc_core.proofs.CoreLemmas.{stepped_sound}
use Rattle.sc_core.proofs.LawLemmas.{waits_have_cause}
use Rattle.sc_core.proofs.cores.Core.step.Goals as goal
use Rattle.sc_core.proofs.LawLemmas.{steps_keep_sound}

pub take-requires : goal.take-requires
take-requires c = waits_have_cause c.self.inside.state.0 c.in-Take.exec c.self.invariant

pub invariant_of-self-in-Take : goal.invariant_of-self-in-Take
invariant_of-self-in-Take c =
    stepped_sound c.self.inside.state.0 c.take.new.self.0 (Take c.in-Take.exec) c.take.result
    c.self.invariant c.take.ensures.answered c.take.ensures.unchanged

pub invariant_of-self-in-Post : goal.invariant_of-self-in-Post
invariant_of-self-in-Post c =
    stepped_sound c.self.inside.state.0 c.post.new.self.0
    (Post c.in-Post.attempt c.in-Post.outcome) c.post.result c.self.invariant
    c.post.ensures.answered c.post.ensures.unchanged

pub invariant_of-self-in-Release : goal.invariant_of-self-in-Release
invariant_of-self-in-Release c =
    stepped_sound c.self.inside.state.0 c.release_key.new.self.0 (Release c.in-Release.key)
    c.release_key.result c.self.invariant c.release_key.ensures.answered
    c.release_key.ensures.unchanged

pub invariant_of-self-in-Side : goal.invariant_of-self-in-Side
invariant_of-self-in-Side c =
    steps_keep_sound c.self.inside.state.0 c.step_aside.new.self.0 (Side c.in-Side.side)
    c.step_aside.result.answer c.self.invariant c.step_aside.ensures.steps

pub invariant_of-self-in-TellLost : goal.invariant_of-self-in-TellLost
invariant_of-self-in-TellLost c =
    stepped_sound c.self.inside.state.0 c.tell_lost.new.self.0 (TellLost c.in-TellLost.exec)
    c.tell_lost.result c.self.invariant c.tell_lost.ensures.answered c.tell_lost.ensures.unchanged
