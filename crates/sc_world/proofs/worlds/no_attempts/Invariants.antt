use Rattle.std.proofs.Common.{◌≡◌, None, replicate}
use Rattle.sc_world.proofs.worlds.no_attempts.Given as goal

abbrev pub invariant-loop : goal.invariant-loop
invariant-loop g l = l.held.items ≡ replicate l.counter None
