use Rattle.std.proofs.Common.{take}
use Rattle.sc_columns.specs.Columns.{zip_with}
use Rattle.sc_batch.specs.Texts.{joined, texts_in}
use Rattle.sc_batch.proofs.TextLemmas.{AreWritten}
use Rattle.sc_batch.proofs.texts.concatenated.Given as goal

abbrev pub invariant-loop-i : goal.invariant-loop-i
invariant-loop-i l = AreWritten l.out (take l.i
    (zip_with joined (texts_in l.first) (texts_in l.second)))
