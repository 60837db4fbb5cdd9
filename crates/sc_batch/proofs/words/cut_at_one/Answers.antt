use Rattle.std.proofs.Common.{◌∙◌, ap, min}
use Rattle.std.specs.List.{slice_range}
use Rattle.sc_batch.proofs.WordLemmas.{each-cut}
use Rattle.sc_batch.proofs.words.cut_at_one.Goals as goal

pub returns : goal.returns
returns c =
    let ts = c.args.texts.now in
    let n = c.args.separator.rows in
    each-cut c.args.separator.byte n ts c.in_ok-part.field-0 c.args.end
    (c.in_ok-part.ensures ∙ ap (slice_range ts 0) (c.min-count.ensures
    ∙ ap (λ m. min m n) c.len.ensures))
