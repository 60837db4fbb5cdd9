use Rattle.std.proofs.Common.{◌+◌, ◌*◌}
use Rattle.sc_compute.proofs.chains.+chains.Given as goal

abbrev pub decreases-chain_to : goal.decreases-chain_to
decreases-chain_to l = l.at.node * 2

abbrev pub decreases-chain_behind : goal.decreases-chain_behind
decreases-chain_behind l = l.at.node * 2 + 1
