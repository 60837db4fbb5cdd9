use Rattle.std.proofs.Common.{◌≡◌, filter, map, take}
use Rattle.sc_stagecut.specs.Marking.{is_marked}
use Rattle.sc_stagecut.specs.declared.carried.Numbered.{Numbered}
use Rattle.sc_stagecut.proofs.stages.marked_stages.Given as goal

abbrev pub invariant-loop-numbered : goal.invariant-loop-numbered
invariant-loop-numbered l =
    l.stages.items
    ≡ map (λ (n : Numbered). n.stage)
    (filter (λ n. is_marked l.marks n.shuffle.node) (take l.numbered-index l.numbers))
