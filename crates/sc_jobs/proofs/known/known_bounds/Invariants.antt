use Rattle.std.proofs.Common.{◌≡◌, map}
use Rattle.sc_base.specs.Lists.{numbers_below}
use Rattle.sc_jobs.specs.Known.{known_at}
use Rattle.sc_jobs.proofs.known.known_bounds.Given as goal

abbrev pub invariant-loop-node : goal.invariant-loop-node
invariant-loop-node l =
    l.known.items ≡ map (known_at l.script.nodes l.carried.bounds) (numbers_below l.node)
