use Rattle.sc_value.proofs.WordLemmas.{AreCopiedTo-more, copied_utf8}
use Rattle.sc_value.proofs.words.words_in.Goals as goal

pub push_word-requires : goal.push_word-requires
push_word-requires c =
    copied_utf8 c.as_bytes-bytes.result.now c.loop-from.out.items c.loop-from.from
    c.word_len-len.result c.word_len-len.ensures.len c.loop-from-test.true c.loop-from.invariant

pub loop-from-preserved : goal.loop-from-preserved
loop-from-preserved c =
    AreCopiedTo-more c.as_bytes-bytes.result.now c.loop-from.out.items c.push_word.new.out.items
    c.loop-from.from c.word_len-len.result c.word_len-len.ensures.len c.loop-from-test.true
    c.in_ok-push_word.ensures c.loop-from.invariant
