use Rattle.std.proofs.Common.{length}
use Rattle.sc_ops.proofs.joins.+joined.Given as goal

abbrev pub decreases-joined : goal.decreases-joined
decreases-joined l = length l.streams.now
