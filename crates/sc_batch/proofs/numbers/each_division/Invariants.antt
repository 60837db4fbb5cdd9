use Rattle.std.proofs.Common.{map}
use Rattle.sc_value.specs.Datum.{number}
use Rattle.sc_columns.specs.Columns.{zip_with}
use Rattle.sc_batch.specs.Items.{division, list_in}
use Rattle.sc_batch.proofs.StreamLemmas.{IsDoneTo}
use Rattle.sc_batch.proofs.numbers.each_division.Given as goal

abbrev pub invariant-loop-i : goal.invariant-loop-i
invariant-loop-i l =
    IsDoneTo (zip_with (division l.rest) (list_in l.m) (list_in l.n)) l.end (map number l.out.items)
    l.i
