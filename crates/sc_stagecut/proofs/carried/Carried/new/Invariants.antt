use Rattle.std.proofs.Common.{◌≡◌, None, replicate}
use Rattle.sc_stagecut.proofs.carried.Carried.new.Given as goal

abbrev pub invariant-loop : goal.invariant-loop
invariant-loop l = l.bounds.items ≡ replicate l.counter None
