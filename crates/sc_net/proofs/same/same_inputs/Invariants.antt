use Rattle.std.proofs.Common.{◌≡◌, drop}
use Rattle.std.specs.Cmp.Lexicographic.{pointwise}
use Rattle.sc_net.specs.Equality.{same_location}
use Rattle.sc_net.proofs.same.same_inputs.Given as goal

abbrev pub invariant-loop-i : goal.invariant-loop-i
invariant-loop-i l =
    pointwise same_location (drop l.i l.fn.a) (drop l.i l.fn.b)
    ≡ pointwise same_location l.fn.a l.fn.b
