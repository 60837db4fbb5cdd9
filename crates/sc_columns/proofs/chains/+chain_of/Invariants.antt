use Rattle.std.proofs.Common.{length}
use Rattle.sc_columns.proofs.chains.+chain_of.Given as goal

abbrev pub decreases-chain_of : goal.decreases-chain_of
decreases-chain_of l = length l.runs.now
