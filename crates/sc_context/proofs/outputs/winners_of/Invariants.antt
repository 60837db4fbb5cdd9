use Rattle.sc_context.proofs.FoundLemmas.{AreFirst}
use Rattle.sc_context.proofs.outputs.winners_of.Given as goal

abbrev pub invariant-loop-partition : goal.invariant-loop-partition
invariant-loop-partition l = AreFirst l.end.committers l.partition l.winners.items
