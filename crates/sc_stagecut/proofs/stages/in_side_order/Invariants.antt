use Rattle.std.proofs.Common.{◌≡◌}
use Rattle.sc_stagecut.specs.Numbering.{in_side_order}
use Rattle.sc_stagecut.proofs.stages.in_side_order.Given as goal

abbrev pub invariant-loop-node : goal.invariant-loop-node
invariant-loop-node l = l.ordered.items ≡ in_side_order l.node l.numbers
