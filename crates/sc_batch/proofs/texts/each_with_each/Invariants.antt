use Rattle.std.proofs.Common.{◌≡◌, take}
use Rattle.sc_columns.specs.Columns.{zip_with}
use Rattle.sc_batch.specs.Texts.{text_test, texts_in}
use Rattle.sc_batch.proofs.texts.each_with_each.Given as goal

abbrev pub invariant-loop-i : goal.invariant-loop-i
invariant-loop-i g l = l.out.items
    ≡ take l.i
    (zip_with (text_test (g.T.TextTest.head l.head)) (texts_in l.first) (texts_in l.second))
