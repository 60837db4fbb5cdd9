use Rattle.std.proofs.Common.{◌≡◌, take, map}
use Rattle.sc_batch.specs.Lists.{span_len}
use Rattle.sc_batch.proofs.lists.span_lens.Given as goal

abbrev pub invariant-loop-i : goal.invariant-loop-i
invariant-loop-i l = l.out.items ≡ map span_len (take l.i l.spans)
