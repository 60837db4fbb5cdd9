use Rattle.std.proofs.Common.{◌≡◌, ◌++◌, drop}
use Rattle.sc_ops.specs.Given.{numbers_times}
use Rattle.sc_ops.proofs.keyed.row_numbers.Given as goal

abbrev pub invariant-loop-i : goal.invariant-loop-i
invariant-loop-i l =
    numbers_times 0 l.counts ≡ l.numbers.items ++ numbers_times l.i (drop l.i l.counts)
