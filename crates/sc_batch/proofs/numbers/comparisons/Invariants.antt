use Rattle.std.proofs.Common.{◌≡◌, take}
use Rattle.sc_columns.specs.Columns.{zip_with}
use Rattle.sc_batch.specs.Items.{int_test, list_in}
use Rattle.sc_batch.proofs.numbers.comparisons.Given as goal

abbrev pub invariant-loop-i : goal.invariant-loop-i
invariant-loop-i l = l.out.items ≡ take l.i (zip_with (int_test l.head) (list_in l.m) (list_in l.n))
