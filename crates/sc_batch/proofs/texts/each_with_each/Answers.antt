use Rattle.std.proofs.Common.{◌∙◌, ap, arith, ◌++◌, ◌∷◌, []}
use Rattle.sc_batch.specs.Texts.{text_test, texts_in}
use Rattle.sc_batch.proofs.ValueLemmas.{zipped_more, zipped_all}
use Rattle.sc_batch.proofs.texts.each_with_each.Goals as goal

pub loop-i-preserved : goal.loop-i-preserved
loop-i-preserved g c =
    let out = c.loop-i.out.items in
    zipped_more (text_test (g.T.TextTest.head c.args.head)) (texts_in c.args.first)
    (texts_in c.args.second) out c.push.new.self.items c.loop-i.i c.at.result.now
    c.at-in-loop-i.result.now c.at.ensures c.at-in-loop-i.ensures c.loop-i.invariant
    (c.in_ok-push.ensures.items ∙ ap (λ b. out ++ b ∷ []) c.test.ensures)

pub returns : goal.returns
returns g c =
    zipped_all (text_test (g.T.TextTest.head c.args.head)) (texts_in c.args.first)
    (texts_in c.args.second) c.loop-i.out.items c.loop-i.i c.loop-i.invariant (omega arith)
