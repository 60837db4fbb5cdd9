use Rattle.std.proofs.Common.{◌≡◌, ◌++◌, map, pos, take, drop}
use Rattle.sc_batch.specs.Items.{divided}
use Rattle.sc_batch.proofs.divisors.divide_each.Given as goal

abbrev pub invariant-loop-number : goal.invariant-loop-number
invariant-loop-number l =
    l.numbers
    ≡ map (λ m. divided l.rest m (pos l.by.number)) (take l.number-index l.fn.numbers)
    ++ drop l.number-index l.fn.numbers
