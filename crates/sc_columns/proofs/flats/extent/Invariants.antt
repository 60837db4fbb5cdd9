use Rattle.std.proofs.Common.{◌≤◌, take}
use Rattle.sc_columns.specs.Flat.{IsExtent}
use Rattle.sc_columns.proofs.flats.extent.Given as goal

abbrev pub invariant-loop-i : goal.invariant-loop-i
invariant-loop-i l = record {
  ordered : l.all.from ≤ l.all.to;
  is : IsExtent (take l.i l.spans) l.all;
}
