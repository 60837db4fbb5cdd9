use Rattle.sc_commit.specs.Committing.{ended}
use Rattle.sc_commit.proofs.CommitLemmas.{change_sound, ended_sound}
use Rattle.sc_commit.proofs.commit.Commit.ended.Goals as goal

pub invariant_of-self : goal.invariant_of-self
invariant_of-self c =
    rw c.end_at.ensures.state
    (change_sound c.self.inside.committers.items c.args.attempt.partition
    (ended c.args.attempt c.args.how) (ended_sound c.args.attempt c.args.how)
    c.self.invariant)
