use Rattle.std.proofs.Common.{◌≡◌, drop}
use Rattle.sc_sink.specs.Memory.{failing_after}
use Rattle.sc_sink.proofs.memory.find.Given as goal

-- the entries that were passed name other calls, so the rest gives what all of them give
abbrev pub invariant-loop-number : goal.invariant-loop-number
invariant-loop-number l =
    failing_after (drop l.number-index l.failing) l.call ≡ failing_after l.failing l.call
