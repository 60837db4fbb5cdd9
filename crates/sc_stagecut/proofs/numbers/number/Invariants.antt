use Rattle.std.proofs.Common.{◌≡◌, ◌+◌, ◌++◌, take}
use Rattle.sc_stagecut.specs.Numbering.{numbered_from}
use Rattle.sc_stagecut.proofs.numbers.number.Given as goal

abbrev pub invariant-loop-shuffle : goal.invariant-loop-shuffle
invariant-loop-shuffle l = record {
  so_far : l.numbered.items
      ≡ l.initial.numbered.items ++ numbered_from l.first (take l.shuffle-index l.fresh);
  number : l.next ≡ l.first + l.shuffle-index;
}
