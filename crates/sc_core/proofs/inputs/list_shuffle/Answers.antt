use Rattle.sc_core.proofs.InputLemmas.{numbered_more}
use Rattle.sc_dag.specs.Outputs.{block_of}
use Rattle.sc_tracker.specs.Outputs.{location_in}
use Rattle.sc_tracker.specs.TrackerData.{output_of}
use Rattle.sc_core.proofs.inputs.list_shuffle.Goals as goal

pub loop-map-preserved : goal.loop-map-preserved
loop-map-preserved c =
    numbered_more (λ m. location_in (output_of c.args.tracker.now (block_of c.args.shuffle m)))
    c.loop-map.map c.args.locations.now.items c.loop-map.locations.items c.push.new.self.items
    c.location.result c.loop-map.invariant c.location.ensures c.in_ok-push.ensures.items
