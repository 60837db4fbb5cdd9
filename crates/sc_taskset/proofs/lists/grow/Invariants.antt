use Rattle.std.proofs.Common.{◌≡◌, ℕ, [], length, map, ◌+◌, ◌-◌}
use Rattle.sc_base.specs.Lists.{at_or}
use Rattle.sc_taskset.proofs.lists.grow.Given as goal

-- each executor has the places that it had
abbrev pub invariant-loop-alloc : goal.invariant-loop-alloc
invariant-loop-alloc l =
    (e : ℕ) → at_or (map (λ v. v.items) l.places.items) e []
    ≡ at_or (map (λ v. v.items) l.fn.places.items) e []

abbrev pub decreases-loop-alloc : goal.decreases-loop-alloc
decreases-loop-alloc l = l.exec + 1 - length l.places.items
