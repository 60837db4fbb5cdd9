use Rattle.std.proofs.Common.{map}
use Rattle.sc_value.specs.Datum.{number, text}
use Rattle.sc_expr.specs.declared.exprs.Head.TheVariants as heads
use Rattle.sc_batch.specs.Outcomes.{of_one}
use Rattle.sc_batch.proofs.StreamLemmas.{IsDoneTo}
use Rattle.sc_batch.proofs.parsing.parsed.Given as goal

abbrev pub invariant-loop-i : goal.invariant-loop-i
invariant-loop-i l =
    IsDoneTo (map (λ t. of_one heads.Int (text t)) l.texts) l.end (map number l.out.items) l.i
