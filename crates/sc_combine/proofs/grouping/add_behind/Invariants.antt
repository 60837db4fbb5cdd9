use Rattle.std.proofs.Common.{◌≡◌, ◌+◌, ◌++◌, map, take}
use Rattle.sc_combine.proofs.grouping.add_behind.Given as goal

abbrev pub invariant-loop-i : goal.invariant-loop-i
invariant-loop-i l =
    l.out.items ≡ l.initial.out.items ++ map (λ n. l.from + n) (take l.i l.numbers)
