use Rattle.std.proofs.Common.{◌≡◌, ℕ, ◌<◌, false}
use Rattle.sc_core.specs.Losses.{may_be_lost}
use Rattle.sc_desk.proofs.dues.first_loss.Given as goal

abbrev pub invariant-loop-exec : goal.invariant-loop-exec
invariant-loop-exec l =
    (other : ℕ) → other < l.exec → may_be_lost l.core other ≡ false
