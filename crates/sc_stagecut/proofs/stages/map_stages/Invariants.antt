use Rattle.std.proofs.Common.{take}
use Rattle.std.specs.List.{AllZip}
use Rattle.sc_stagecut.specs.Counting.{IsCountedStage}
use Rattle.sc_stagecut.proofs.stages.map_stages.Given as goal

abbrev pub invariant-loop-numbered : goal.invariant-loop-numbered
invariant-loop-numbered l =
    AllZip (IsCountedStage l.script.nodes l.counts l.ordered) (take l.numbered-index l.numbers)
    l.graph
