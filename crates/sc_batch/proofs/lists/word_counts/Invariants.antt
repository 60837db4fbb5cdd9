use Rattle.std.proofs.Common.{◌≡◌, take, map}
use Rattle.sc_batch.specs.Lists.{count_of_words}
use Rattle.sc_batch.proofs.lists.word_counts.Given as goal

abbrev pub invariant-loop-i : goal.invariant-loop-i
invariant-loop-i l = l.out.items ≡ map count_of_words (take l.i l.texts)
