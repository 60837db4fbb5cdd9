use Rattle.std.proofs.Common.{◌≡◌, map, take, not}
use Rattle.sc_batch.proofs.choices.opposite.Given as goal

abbrev pub invariant-loop-i : goal.invariant-loop-i
invariant-loop-i l = l.out.items ≡ map not (take l.i l.marks)
