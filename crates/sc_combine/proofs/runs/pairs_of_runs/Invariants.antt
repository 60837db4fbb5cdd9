use Rattle.std.proofs.Common.{◌≡◌, length, take}
use Rattle.std.specs.List.{flat_map}
use Rattle.sc_columns.specs.Columns.{zip_with}
use Rattle.sc_value.specs.Datum.{pair}
use Rattle.sc_combine.proofs.runs.pairs_of_runs.Given as goal

abbrev pub invariant-loop-i : goal.invariant-loop-i
invariant-loop-i l = record {
  are : zip_with pair l.first l.second ≡ flat_map (λ run. run) (take l.i l.runs.items);
  level : length l.first ≡ length l.second;
}
