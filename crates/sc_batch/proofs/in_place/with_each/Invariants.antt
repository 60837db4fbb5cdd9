use Rattle.std.proofs.Common.{◌≡◌}
use Rattle.sc_batch.specs.Items.{int_value}
use Rattle.sc_batch.proofs.PlaceLemmas.{zipped_to}
use Rattle.sc_batch.proofs.in_place.with_each.Given as goal

abbrev pub invariant-loop-i : goal.invariant-loop-i
invariant-loop-i l = l.numbers ≡ zipped_to (int_value l.head) l.i l.fn.numbers l.others
