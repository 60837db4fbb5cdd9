use Rattle.std.proofs.Common.{map}
use Rattle.sc_value.specs.Datum.{number}
use Rattle.sc_value.specs.Picked.{ArePlaces, picked}
use Rattle.sc_columns.specs.Columns.{zip_with}
use Rattle.sc_expr.specs.declared.exprs.Head.TheVariants as heads
use Rattle.sc_batch.specs.Items.{list_in}
use Rattle.sc_batch.specs.Outcomes.{of_two}
use Rattle.sc_batch.proofs.StreamLemmas.{IsDoneTo}
use Rattle.sc_batch.proofs.picks.nth_of_lists.Given as goal

abbrev pub invariant-loop-i : goal.invariant-loop-i
invariant-loop-i l = record {
  done : IsDoneTo (zip_with (of_two heads.Nth) l.rows (map number (list_in l.at))) l.end
      (picked l.lists.items l.places.items) l.i;
  places : ArePlaces l.lists.items l.places.items;
}
