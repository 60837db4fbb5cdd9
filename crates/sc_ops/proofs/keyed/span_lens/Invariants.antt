use Rattle.std.proofs.Common.{◌≡◌, map, take}
use Rattle.sc_ops.proofs.PairLemmas.{span_len}
use Rattle.sc_ops.proofs.keyed.span_lens.Given as goal

abbrev pub invariant-loop-span : goal.invariant-loop-span
invariant-loop-span l = l.lens.items ≡ map span_len (take l.span-index l.spans)
