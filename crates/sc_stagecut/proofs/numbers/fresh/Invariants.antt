use Rattle.std.proofs.Common.{◌≡◌, filter}
use Rattle.sc_stagecut.specs.Marking.{is_fresh}
use Rattle.sc_stagecut.specs.Numbering.{sides_below}
use Rattle.sc_stagecut.proofs.numbers.fresh.Given as goal

abbrev pub invariant-loop-node : goal.invariant-loop-node
invariant-loop-node l =
    l.fresh.items
    ≡ filter (is_fresh l.script.nodes l.marks l.carried.stages) (sides_below l.node)
