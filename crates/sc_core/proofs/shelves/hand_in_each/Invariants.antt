use Rattle.std.proofs.Common.{◌≡◌, ◌++◌, map, take, drop}
use Rattle.sc_core.specs.CoreData.{as_in}
use Rattle.sc_core.proofs.shelves.hand_in_each.Given as goal

abbrev pub invariant-loop-one : goal.invariant-loop-one
invariant-loop-one l =
    l.running ≡ map (as_in l.attempt) (take l.one-index l.fn.running)
    ++ drop l.one-index l.fn.running
