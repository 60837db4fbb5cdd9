use Rattle.std.proofs.Common.{◌≡◌, None, replicate}
use Rattle.sc_core.proofs.kept.Kept.new.Given as goal

abbrev pub invariant-loop : goal.invariant-loop
invariant-loop l = l.lists.items ≡ replicate l.counter None
