use Rattle.std.proofs.Common.{◌≡◌, ◌≤◌, map}
use Rattle.sc_lineage.specs.Dependencies.{places_from}
use Rattle.sc_lineage.specs.Views.{place_data_of}
use Rattle.sc_lineage.proofs.dependencies.run_of_places.Given as goal

abbrev pub invariant-loop-partition : goal.invariant-loop-partition
invariant-loop-partition l = record {
  so_far : map place_data_of l.places.items ≡ places_from l.node l.from l.partition;
  within : l.partition ≤ l.to;
}
