use Rattle.std.proofs.Common.{◌≡◌, take}
use Rattle.sc_task.proofs.computing.shared.Given as goal

abbrev pub invariant-loop-output : goal.invariant-loop-output
invariant-loop-output l = l.out.items ≡ take l.output-index l.outputs
