use Rattle.std.proofs.Common.{◌≡◌, length}
use Rattle.sc_rows.proofs.executors.stores_of.Given as goal

abbrev pub invariant-loop-place : goal.invariant-loop-place
invariant-loop-place g l = length l.locked.items ≡ l.place
