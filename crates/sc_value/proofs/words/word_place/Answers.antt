use Rattle.std.proofs.Common.{◌-◌, arith, ap}
use Rattle.sc_value.proofs.WordPlaces.{IsWordFrom-more, IsWordFrom-found, IsWordFrom-part}
use Rattle.sc_value.proofs.words.word_place.Goals as goal

pub returns-then-left-step-clause-word : goal.returns-then-left-step-clause-word
returns-then-left-step-clause-word c =
    IsWordFrom-found c.args.text.now c.args.first c.loop-from.from c.word_len-len.result
    c.args.end c.args.k c.loop-from.left c.requires.within c.loop-from-test.true
    c.word_len-len.ensures.len (omega (arith, c.min-step.ensures, c.if-left-step.true))
    (omega (arith, c.min-step.ensures, c.if-left-step.true)) c.loop-from.invariant

pub returns-then-left-step-clause-part : goal.returns-then-left-step-clause-part
returns-then-left-step-clause-part c =
    IsWordFrom-part c.args.text.now c.args.first c.loop-from.from c.word_len-len.result c.args.end
    c.args.k c.loop-from.left c.requires.within c.loop-from-test.true c.word_len-len.ensures.len
    c.loop-from.invariant

pub loop-from-preserved : goal.loop-from-preserved
loop-from-preserved c =
    IsWordFrom-more c.args.text.now c.args.first c.loop-from.from c.word_len-len.result c.args.end
    c.args.k c.loop-from.left _ c.requires.within c.loop-from-test.true c.word_len-len.ensures.len
    (λ none. omega (arith, c.min-step.ensures, c.if-left-step.false))
    (ap (λ m. c.loop-from.left - m) c.min-step.ensures) c.loop-from.invariant
