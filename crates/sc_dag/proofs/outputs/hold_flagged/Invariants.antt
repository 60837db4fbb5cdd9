use Rattle.std.proofs.Common.{◌≡◌}
use Rattle.sc_dag.proofs.HeldLemmas.{held_below}
use Rattle.sc_dag.proofs.outputs.hold_flagged.Given as goal

-- those below this partition are held back that flags say
abbrev pub invariant-loop-k : goal.invariant-loop-k
invariant-loop-k l = l.set ≡ held_below l.held l.k l.fn.set
