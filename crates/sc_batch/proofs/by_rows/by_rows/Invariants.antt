use Rattle.sc_batch.specs.Outcomes.{outcomes_at}
use Rattle.sc_batch.proofs.StreamLemmas.{IsDoneTo}
use Rattle.sc_batch.proofs.by_rows.by_rows.Given as goal

abbrev pub invariant-loop-i : goal.invariant-loop-i
invariant-loop-i l = IsDoneTo (outcomes_at l.what) l.end l.out l.i
