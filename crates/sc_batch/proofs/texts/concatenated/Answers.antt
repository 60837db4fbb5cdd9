use Rattle.std.proofs.Common.{◌∙◌, ap, ◌++◌, ◌∷◌, [], arith}
use Rattle.std.proofs.lemmas.List.{take_all}
use Rattle.std.proofs.lemmas.Result.{IfOk-weaker}
use Rattle.sc_columns.specs.Columns.{zip_with}
use Rattle.sc_columns.proofs.ListLemmas.{length-zip_with, slice_get-zip_with}
use Rattle.sc_batch.specs.Texts.{joined, texts_in}
use Rattle.sc_batch.proofs.TextLemmas.{written_more}
use Rattle.sc_batch.proofs.texts.concatenated.Goals as goal

pub loop-i-preserved : goal.loop-i-preserved
loop-i-preserved c =
    let xs = texts_in c.args.first in
    let ys = texts_in c.args.second in
    let x = c.at.result.now in
    let y = c.at-in-loop-i.result.now in
    written_more c.loop-i.out c.push.new.self (zip_with joined xs ys) c.loop-i.i (x ++ y)
    (slice_get-zip_with joined xs ys c.loop-i.i x y c.at.ensures c.at-in-loop-i.ensures)
    (c.in_ok-push.ensures.texts
    ∙ ap (λ ts. ts ++ (c.write.new.self.open_text ++ y) ∷ []) c.in_ok-write.ensures.texts
    ∙ ap (λ o. c.loop-i.out.texts ++ (o ++ y) ∷ [])
    (c.in_ok-write.ensures.open_text ∙ ap (λ o. o ++ x) c.loop-i.invariant.none_open))
    c.in_ok-push.ensures.open_text c.loop-i.invariant

pub returns : goal.returns
returns c =
    let xs = texts_in c.args.first in
    let ys = texts_in c.args.second in
    IfOk-weaker c.finish.result _ _ (λ t is. is ∙ c.loop-i.invariant.are
    ∙ take_all c.loop-i.i (zip_with joined xs ys) (omega (
      arith,
      length-zip_with joined xs ys,
      c.len.ensures,
      c.len-2.ensures,
      c.min-count.ensures,
    ))) c.finish.ensures
