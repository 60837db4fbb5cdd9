use Rattle.std.proofs.Common.{◌≡◌, ◌++◌, None, map, take, drop}
use Rattle.sc_core.proofs.kept.forget_each.Given as goal

abbrev pub invariant-loop-list : goal.invariant-loop-list
invariant-loop-list l =
    l.lists ≡ map (λ _. None) (take l.list-index l.fn.lists)
    ++ drop l.list-index l.fn.lists
