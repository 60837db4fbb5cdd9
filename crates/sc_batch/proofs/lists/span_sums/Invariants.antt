use Rattle.std.proofs.Common.{◌≡◌, take, map}
use Rattle.sc_batch.specs.Lists.{span_sum}
use Rattle.sc_batch.proofs.lists.span_sums.Given as goal

abbrev pub invariant-loop-i : goal.invariant-loop-i
invariant-loop-i l = l.out.items ≡ map (span_sum l.items) (take l.i l.spans)
