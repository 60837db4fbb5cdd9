use Rattle.std.proofs.Common.{◌≡◌, take}
use Rattle.sc_core.specs.Losses.{all_released, attempts_on}
use Rattle.sc_core.proofs.states.State.release_on.Given as goal

abbrev pub invariant-loop-k : goal.invariant-loop-k
invariant-loop-k l =
    l.self.0 ≡ all_released (attempts_on l.exec (take l.k l.fn.self.0.running)) l.fn.self.0
