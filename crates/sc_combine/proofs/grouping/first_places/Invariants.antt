use Rattle.std.proofs.Common.{◌≡◌, ◌++◌, drop, length}
use Rattle.sc_combine.specs.Groupings.{firsts_from}
use Rattle.sc_combine.proofs.grouping.first_places.Given as goal

abbrev pub invariant-loop-i : goal.invariant-loop-i
invariant-loop-i l =
    l.places.items ++ firsts_from (length l.places.items) l.i (drop l.i l.numbers)
    ≡ firsts_from 0 0 l.numbers
