use Rattle.std.proofs.Common.{arith, refl}
use Rattle.sc_lineage.proofs.ReadLemmas.{places_from-more}
use Rattle.sc_lineage.proofs.dependencies.run_of_places.Goals as goal

pub loop-partition-preserved : goal.loop-partition-preserved
loop-partition-preserved c = record {
  so_far =
      places_from-more c.loop-partition.places.items c.push.new.self.items
      (record { node = c.args.node; partition = c.loop-partition.partition }) c.args.node
      c.args.from c.loop-partition.partition (omega arith) c.loop-partition.invariant.so_far
      c.in_ok-push.ensures.items refl;
  within = omega arith;
}
