use Rattle.std.proofs.Common.{◌+◌, ap}
use Rattle.sc_value.proofs.WordPlaces.{IsCountTo-more}
use Rattle.sc_value.proofs.words.count_words.Goals as goal

pub loop-from-preserved : goal.loop-from-preserved
loop-from-preserved c =
    IsCountTo-more c.args.text.now c.loop-from.from c.word_len-len.result c.loop-from.count
    (c.loop-from.count + c.min-count.result) c.loop-from-test.true c.word_len-len.ensures.len
    (ap (λ m. c.loop-from.count + m) c.min-count.ensures) c.loop-from.invariant
