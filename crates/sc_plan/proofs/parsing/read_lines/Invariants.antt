use Rattle.sc_plan.proofs.PlanLemmas.{IsReadTo}
use Rattle.sc_plan.proofs.parsing.read_lines.Given as goal

abbrev pub invariant-loop-i : goal.invariant-loop-i
invariant-loop-i l = IsReadTo l.executors l.lines l.i l.read.items
