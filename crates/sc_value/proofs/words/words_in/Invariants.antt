use Rattle.std.proofs.Common.{◌-◌}
use Rattle.sc_value.proofs.WordLemmas.{AreCopiedTo}
use Rattle.sc_value.proofs.words.words_in.Given as goal

abbrev pub invariant-loop-from : goal.invariant-loop-from
invariant-loop-from l = AreCopiedTo l.bytes l.out.items l.from

abbrev pub decreases-loop-from : goal.decreases-loop-from
decreases-loop-from l = l.end - l.from
