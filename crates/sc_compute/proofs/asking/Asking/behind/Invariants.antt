use Rattle.std.proofs.Common.{◌≡◌, drop}
use Rattle.sc_compute.specs.Asking.{IsAsking}
use Rattle.sc_compute.proofs.AsksLemmas.{with_numbers}
use Rattle.sc_compute.proofs.asking.Asking.behind.Given as goal

abbrev pub invariant-loop-place : goal.invariant-loop-place
invariant-loop-place l = record {
  asking : IsAsking l.work l.stages l.self;
  same : l.self.below ≡ l.initial.self.below;
  keys : with_numbers l.self.left.keys (drop l.place-index l.place-items)
      ≡ with_numbers l.initial.self.left.keys l.place-items;
}
