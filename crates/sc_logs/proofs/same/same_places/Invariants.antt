use Rattle.std.proofs.Common.{◌≡◌, ◌↔◌, drop}
use Rattle.sc_logs.proofs.same.same_places.Given as goal

abbrev pub invariant-loop-i : goal.invariant-loop-i
invariant-loop-i l = (drop l.i l.fn.a ≡ drop l.i l.fn.b) ↔ (l.fn.a ≡ l.fn.b)
