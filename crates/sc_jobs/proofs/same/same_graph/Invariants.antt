use Rattle.std.proofs.Common.{◌≡◌, drop}
use Rattle.std.specs.Cmp.Lexicographic.{pointwise}
use Rattle.sc_jobs.specs.Equality.{same_stage}
use Rattle.sc_jobs.proofs.same.same_graph.Given as goal

abbrev pub invariant-loop-i : goal.invariant-loop-i
invariant-loop-i l =
    pointwise same_stage (drop l.i l.fn.a) (drop l.i l.fn.b)
    ≡ pointwise same_stage l.fn.a l.fn.b
