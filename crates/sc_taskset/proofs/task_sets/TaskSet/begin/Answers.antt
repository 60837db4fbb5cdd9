use Rattle.std.proofs.Common.{arith}
use Rattle.sc_taskset.proofs.RoomLemmas.{before_below}
use Rattle.sc_taskset.proofs.task_sets.TaskSet.begin.Goals as goal

pub hold-requires : goal.hold-requires
hold-requires c =
    rw c.loop-partition.invariant (record {
      above = before_below c.args.partitions.now c.loop-partition.partition-index
          c.requires.rising c.loop-partition-test.true;
      spare = omega (arith, c.loop-partition-test.true);
    })
