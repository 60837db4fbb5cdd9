use Rattle.std.proofs.Common.{◌≡◌, ◌++◌, map, take, drop}
use Rattle.sc_core.specs.Saving.{as_far}
use Rattle.sc_core.proofs.saving.take_each_to.Given as goal

abbrev pub invariant-loop-one : goal.invariant-loop-one
invariant-loop-one l =
    l.running ≡ map (as_far l.attempt l.phase) (take l.one-index l.fn.running)
    ++ drop l.one-index l.fn.running
