use Rattle.std.proofs.Common.{◌≡◌, take}
use Rattle.std.specs.Prelude.{replicate}
use Rattle.sc_columns.specs.Columns.{zip_with}
use Rattle.sc_batch.specs.Texts.{text_test}
use Rattle.sc_batch.proofs.text_tests.one_with_each.Given as goal

abbrev pub invariant-loop-i : goal.invariant-loop-i
invariant-loop-i g l = l.out.items
    ≡ take l.i (zip_with (text_test (g.T.TextTest.head l.head)) (replicate l.n l.one) l.all)
