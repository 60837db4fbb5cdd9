use Rattle.std.proofs.Common.{take}
use Rattle.sc_core.proofs.LoseLemmas.{released_next, released_running}
use Rattle.sc_core.proofs.states.State.release_on.Goals as goal

pub loop-k-preserved : goal.loop-k-preserved
loop-k-preserved c =
    released_next c.args.exec c.args.self.now.0 c.loop-k.self.0 c.release_at.new.self.0 c.loop-k.k
    c.loop-k.invariant c.release_at.ensures

pub returns-clause-running : goal.returns-clause-running
returns-clause-running c =
    released_running c.args.exec (take c.loop-k.k c.args.self.now.0.running) c.args.self.now.0
    c.loop-k.self.0 c.loop-k.invariant
