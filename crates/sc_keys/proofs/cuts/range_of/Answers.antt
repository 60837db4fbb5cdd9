use Rattle.std.proofs.Common.{◌∙◌, ap₂, arith, slice_range, sym}
use Rattle.sc_keys.proofs.CutLemmas.{at_or-cut_from, at_or-past_cut}
use Rattle.sc_keys.proofs.cuts.range_of.Goals as goal

pub returns-then-number-ends : goal.returns-then-number-ends
returns-then-number-ends c = λ rows.
    ap₂ (slice_range rows) c.range_in.ensures.from c.range_in.ensures.to
    ∙ sym (at_or-cut_from rows 0 c.args.ends.now c.args.number (omega arith))

pub returns-else-number-ends : goal.returns-else-number-ends
returns-else-number-ends c = λ rows.
    sym (at_or-past_cut rows 0 c.args.ends.now c.args.number (omega arith))
