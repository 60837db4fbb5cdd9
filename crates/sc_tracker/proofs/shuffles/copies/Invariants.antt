use Rattle.std.proofs.Common.{◌≡◌, take}
use Rattle.sc_tracker.proofs.shuffles.copies.Given as goal

abbrev pub invariant-loop-outputs : goal.invariant-loop-outputs
invariant-loop-outputs l = l.copies.items ≡ take l.outputs-index l.fn.shuffles
