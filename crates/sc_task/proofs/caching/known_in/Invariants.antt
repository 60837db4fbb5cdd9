use Rattle.std.proofs.Common.{All}
use Rattle.sc_compute.specs.Asking.{IsAsking, place_taken}
use Rattle.sc_compute.specs.Caching.{IsOwnPart}
use Rattle.sc_compute.specs.Tasks.{target_data_of}
use Rattle.sc_task.proofs.CacheLemmas.{TakesSoFar}
use Rattle.sc_task.proofs.caching.known_in.Given as goal

abbrev pub invariant-loop-asking : goal.invariant-loop-asking
invariant-loop-asking g l = record {
  asking : IsAsking l.work l.stages l.asking;
  own : All (IsOwnPart l.work) l.known.items;
  far : TakesSoFar l.work (place_taken l.work (target_data_of l.target)) l.store l.known.items
      l.asking;
}

abbrev pub decreases-loop-asking : goal.decreases-loop-asking
decreases-loop-asking g l = l.asking.below
