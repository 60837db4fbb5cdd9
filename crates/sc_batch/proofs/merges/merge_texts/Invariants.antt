use Rattle.std.proofs.Common.{◌≡◌, []}
use Rattle.sc_batch.specs.Texts.{texts_in}
use Rattle.sc_batch.proofs.ChoiceLemmas.{IsMergedTo}
use Rattle.sc_batch.proofs.merges.merge_texts.Given as goal

abbrev pub invariant-loop-i : goal.invariant-loop-i
invariant-loop-i l = record {
  are : IsMergedTo l.marks (texts_in l.yes) l.yes_end (texts_in l.no) l.no_end l.end
      l.out.texts l.i l.from_yes l.from_no;
  none_open : l.out.open_text ≡ [];
}
