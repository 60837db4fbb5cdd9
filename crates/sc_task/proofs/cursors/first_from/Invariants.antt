use Rattle.std.proofs.Common.{◌≡◌}
use Rattle.sc_task.specs.Cursors.{blocks_behind}
use Rattle.sc_task.proofs.cursors.first_from.Given as goal

abbrev pub invariant-loop-k : goal.invariant-loop-k
invariant-loop-k g l = blocks_behind l.fn.task l.fn.from ≡ blocks_behind l.fn.task l.k
