use Rattle.std.proofs.Common.{◌≡◌, ◌++◌, map, take, drop}
use Rattle.sc_batch.specs.Items.{int_value}
use Rattle.sc_batch.proofs.in_place.with_number.Given as goal

abbrev pub invariant-loop-number : goal.invariant-loop-number
invariant-loop-number l =
    l.numbers ≡ map (λ m. int_value l.head m l.other) (take l.number-index l.fn.numbers)
    ++ drop l.number-index l.fn.numbers
