use Rattle.std.proofs.Common.{◌≡◌}
use Rattle.std.specs.List.{flat_map}
use Rattle.sc_columns.specs.Columns.{shared_rows}
use Rattle.sc_columns.specs.Runs.{run_rows}
use Rattle.sc_columns.proofs.runs.closed_all.Given as goal

abbrev pub invariant-loop-run : goal.invariant-loop-run
invariant-loop-run l = flat_map shared_rows l.out.items ≡ flat_map run_rows l.yielded
