use Rattle.std.proofs.Common.{◌≡◌, false, replicate}
use Rattle.sc_desk.proofs.journals.none_left.Given as goal

abbrev pub invariant-loop : goal.invariant-loop
invariant-loop l = l.left.items ≡ replicate l.counter false
