use Rattle.std.proofs.Common.{◌≡◌, ◌≤◌, length, vec_len}
use Rattle.sc_compute.proofs.readers.readers.Given as goal

abbrev pub invariant-loop-node : goal.invariant-loop-node
invariant-loop-node l =
    record { same : vec_len l.readers ≡ length l.nodes; within : l.node ≤ length l.nodes }

abbrev pub decreases-loop-node : goal.decreases-loop-node
decreases-loop-node l = l.node
