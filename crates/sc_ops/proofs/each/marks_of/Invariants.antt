use Rattle.std.proofs.Common.{◌≡◌, map, take}
use Rattle.sc_expr.specs.Heads.{truth_in}
use Rattle.sc_ops.proofs.each.marks_of.Given as goal

abbrev pub invariant-loop-i : goal.invariant-loop-i
invariant-loop-i l = l.marks.items ≡ map truth_in (take l.i l.rows)
