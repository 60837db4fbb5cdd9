use Rattle.sc_value.proofs.BlankLemmas.{near_word}
use Rattle.sc_value.proofs.blanks.word_len.Goals as goal

pub returns-then-near-lt-LANES-clause-len : goal.returns-then-near-lt-LANES-clause-len
returns-then-near-lt-LANES-clause-len c =
    near_word c.args.text.now c.args.from c.args.end c.near_blank-near.result c.min.result
    c.if-near-lt-LANES.true c.near_blank-near.ensures c.min.ensures
