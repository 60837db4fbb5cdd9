use Rattle.std.proofs.Common.{◌∙◌, ◌<◌, ap, arith, ◌++◌, ◌∷◌, [], length, replicate}
use Rattle.std.proofs.lemmas.List.{length-map, length-replicate}
use Rattle.std.proofs.lemmas.Option.{slice_get-get_or}
use Rattle.sc_columns.proofs.ListLemmas.{slice_get-replicate}
use Rattle.sc_batch.specs.Texts.{text_test}
use Rattle.sc_batch.proofs.ZipLemmas.{part_there}
use Rattle.sc_value.specs.Spans.{part_at}
use Rattle.sc_batch.proofs.ValueLemmas.{zipped_more, zipped_all}
use Rattle.sc_batch.proofs.text_tests.each_with_one.Goals as goal

pub loop-i-preserved : goal.loop-i-preserved
loop-i-preserved g c =
    let out = c.loop-i.out.items in
    let one = c.args.one.now in
    let within : c.loop-i.i < c.args.n = omega arith in
    let at = part_there c.parts.result.0.now c.parts.result.1.now c.args.all.now c.loop-i.i
    _ c.text_in.result.now c.parts.ensures.texts
    (slice_get-get_or c.parts.result.1.now c.loop-i.i _ (omega arith))
    c.text_in.ensures in
    zipped_more (text_test (g.T.TextTest.head c.args.head)) c.args.all.now (replicate c.args.n one)
    out c.push.new.self.items c.loop-i.i c.text_in.result.now one at
    (slice_get-replicate c.args.n c.loop-i.i one within) c.loop-i.invariant
    (c.in_ok-push.ensures.items ∙ ap (λ b. out ++ b ∷ []) c.test.ensures)

pub returns : goal.returns
returns g c =
    let ones = replicate c.args.n c.args.one.now in
    zipped_all (text_test (g.T.TextTest.head c.args.head)) c.args.all.now ones c.loop-i.out.items
    c.loop-i.i c.loop-i.invariant (omega (
      arith,
      length-replicate c.args.n c.args.one.now,
      ap length c.parts.ensures.texts,
      length-map c.parts.result.1.now (part_at c.parts.result.0.now),
    ))
