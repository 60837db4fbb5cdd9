use Rattle.std.proofs.Common.{◌≡◌, ◌<◌, ◌≤◌, ℕ, get_or, length}
use Rattle.sc_taskset.proofs.lists.take_from.Given as goal

-- the place isn't among those from here on
abbrev pub invariant-loop-at : goal.invariant-loop-at
invariant-loop-at l = record {
  same : l.places.items ≡ l.fn.places.items;
  within : l.at ≤ length l.places.items;
  none : (k : ℕ) → l.at ≤ k → k < length l.places.items → get_or l.places.items k 0 ≡ l.place → ⊥;
}

abbrev pub decreases-loop-at : goal.decreases-loop-at
decreases-loop-at l = l.at
