use Rattle.sc_value.specs.Words.{nth_word}
use Rattle.sc_value.proofs.ListLemmas.{AreFoundTo}
use Rattle.sc_value.proofs.words.nth_words_at.Given as goal

abbrev pub invariant-loop-i : goal.invariant-loop-i
invariant-loop-i l = AreFoundTo (nth_word l.k) l.text l.places l.out.items l.i
