use Rattle.std.proofs.Common.{◌≡◌, None, take}
use Rattle.sc_ops.proofs.ChainLemmas.{chain_gives}
use Rattle.sc_ops.proofs.chains.run_steps.Given as goal

abbrev pub invariant-loop-step : goal.invariant-loop-step
invariant-loop-step l = l.stream ≡ chain_gives (take l.step-index l.steps) l.batch None
