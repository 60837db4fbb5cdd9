use Rattle.std.proofs.Common.{◌-◌}
use Rattle.sc_value.specs.Spans.{part_at}
use Rattle.sc_value.proofs.WordLemmas.{AreWordsTo}
use Rattle.sc_value.proofs.words.add_words.Given as goal

abbrev pub invariant-loop-from : goal.invariant-loop-from
invariant-loop-from l =
    AreWordsTo l.text (part_at l.text l.fn.part) l.fn.out.items l.out.items l.from l.fn.part.to

abbrev pub decreases-loop-from : goal.decreases-loop-from
decreases-loop-from l = l.fn.part.to - l.from
