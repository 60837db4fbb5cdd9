use Rattle.std.proofs.Common.{◌≡◌, ◌++◌, map}
use Rattle.sc_base.specs.Lists.{numbers_below}
use Rattle.sc_dag.specs.Outputs.{block_of}
use Rattle.sc_tracker.specs.Outputs.{location_in}
use Rattle.sc_tracker.specs.TrackerData.{output_of}
use Rattle.sc_core.proofs.inputs.list_shuffle.Given as goal

abbrev pub invariant-loop-map : goal.invariant-loop-map
invariant-loop-map l =
    l.locations.items ≡ l.fn.locations.items
    ++ map (λ m. location_in (output_of l.tracker (block_of l.shuffle m))) (numbers_below l.map)
