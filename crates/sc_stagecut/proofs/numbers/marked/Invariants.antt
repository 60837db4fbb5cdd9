use Rattle.std.proofs.Common.{◌≡◌, filter, take}
use Rattle.sc_stagecut.specs.Marking.{is_marked}
use Rattle.sc_stagecut.proofs.numbers.marked.Given as goal

abbrev pub invariant-loop-one : goal.invariant-loop-one
invariant-loop-one l =
    l.those.items
    ≡ filter (λ n. is_marked l.marks n.shuffle.node) (take l.one-index l.numbered)
