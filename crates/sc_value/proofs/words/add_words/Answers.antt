use Rattle.sc_value.specs.Spans.{part_at}
use Rattle.sc_value.proofs.WordLemmas.{AreWordsTo-more}
use Rattle.sc_value.proofs.words.add_words.Goals as goal

pub loop-from-preserved : goal.loop-from-preserved
loop-from-preserved c =
    AreWordsTo-more c.args.text.now (part_at c.args.text.now c.args.part) c.args.out.now.items
    c.loop-from.out.items c.push_some.new.out.items c.loop-from.from c.word_len-len.result
    c.args.part.to c.word_len-len.ensures.len c.loop-from-test.true c.in_ok-push_some.ensures
    c.loop-from.invariant
