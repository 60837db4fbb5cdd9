use Rattle.std.proofs.Common.{◌≡◌, ◌≤◌, ◌++◌, ◌-◌, drop, length}
use Rattle.std.specs.List.{flat_map}
use Rattle.sc_ops.proofs.batches.add_batches.Given as goal

abbrev pub invariant-loop-from : goal.invariant-loop-from
invariant-loop-from l =
    (l.from ≤ length l.run)
    × (flat_map (λ batch. batch) l.out.items ++ drop l.from l.run
    ≡ flat_map (λ batch. batch) l.initial.out.items ++ l.run)

abbrev pub decreases-loop-from : goal.decreases-loop-from
decreases-loop-from l = length l.run - l.from
