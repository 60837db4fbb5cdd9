use Rattle.sc_batch.proofs.ChoiceLemmas.{IsMergedTo}
use Rattle.sc_batch.proofs.choices.choose_rows.Given as goal

abbrev pub invariant-loop-i : goal.invariant-loop-i
invariant-loop-i l =
    IsMergedTo l.marks l.yes.rows l.yes.raise l.no.rows l.no.raise l.end l.out l.i l.from_yes
    l.from_no
