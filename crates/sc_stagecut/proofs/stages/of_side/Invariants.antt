use Rattle.std.proofs.Common.{◌≡◌, filter, take}
use Rattle.sc_stagecut.specs.Numbering.{is_of}
use Rattle.sc_stagecut.proofs.stages.of_side.Given as goal

abbrev pub invariant-loop-one : goal.invariant-loop-one
invariant-loop-one l = l.those.items ≡ filter (is_of l.side) (take l.one-index l.numbers)
