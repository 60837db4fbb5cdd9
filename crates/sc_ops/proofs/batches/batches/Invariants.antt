use Rattle.std.proofs.Common.{◌≡◌, take}
use Rattle.std.specs.List.{flat_map}
use Rattle.sc_ops.proofs.batches.batches.Given as goal

abbrev pub invariant-loop-i : goal.invariant-loop-i
invariant-loop-i l =
    flat_map (λ batch. batch) l.out.items ≡ flat_map (λ run. run) (take l.i l.runs.items)
