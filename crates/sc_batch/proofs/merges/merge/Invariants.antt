use Rattle.sc_batch.specs.Items.{list_in}
use Rattle.sc_batch.proofs.ChoiceLemmas.{IsMergedTo}
use Rattle.sc_batch.proofs.merges.merge.Given as goal

abbrev pub invariant-loop-i : goal.invariant-loop-i
invariant-loop-i g l =
    IsMergedTo l.marks (list_in l.yes) l.yes_end (list_in l.no) l.no_end l.end
    l.items.items l.i l.from_yes l.from_no
