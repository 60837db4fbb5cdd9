use Rattle.sc_commit.specs.Committing.{asked}
use Rattle.sc_commit.proofs.CommitLemmas.{asked_sound, change_sound}
use Rattle.sc_commit.proofs.commit.Commit.ask.Goals as goal

pub invariant_of-self : goal.invariant_of-self
invariant_of-self c =
    rw c.ask_at.ensures.state
    (change_sound c.self.inside.committers.items c.args.attempt.partition
    (asked c.args.attempt) (asked_sound c.args.attempt) c.self.invariant)
