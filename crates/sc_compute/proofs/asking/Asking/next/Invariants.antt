use Rattle.std.proofs.Common.{◌≤◌, Bool, List}
use Rattle.sc_lineage.specs.Dependencies.{PlaceData}
use Rattle.sc_compute.specs.Asking.{AreOfCaches, AsksFor, IsAsking}
use Rattle.sc_compute.proofs.asking.Asking.next.Given as goal

abbrev pub invariant-loop-number : goal.invariant-loop-number
invariant-loop-number l = record {
  asking : IsAsking l.work l.stages l.self;
  falls : l.self.below ≤ l.initial.self.below;
  asks : (had : PlaceData → Bool) (from : PlaceData) (given : List PlaceData)
      → AreOfCaches l.work had → AsksFor l.work had from given l.initial.self
      → AsksFor l.work had from given l.self;
}

abbrev pub decreases-loop-number : goal.decreases-loop-number
decreases-loop-number l = l.self.below
