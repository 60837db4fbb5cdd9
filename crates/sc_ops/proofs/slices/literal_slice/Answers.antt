use Rattle.std.proofs.Common.{◌∙◌, ℕ, ap, subst}
use Rattle.sc_lineage.specs.Streams.{whole_stream}
use Rattle.sc_ops.specs.Slices.{AreSliceBounds}
use Rattle.sc_ops.proofs.SliceLemmas.{slice_of-bounds}
use Rattle.sc_ops.proofs.slices.literal_slice.Goals as goal

pub returns : goal.returns
returns c =
    let P = λ (n : ℕ). AreSliceBounds n c.args.slices c.args.p c.bounds-from.result.0
    c.bounds-from.result.1 in
    ap whole_stream
    (c.in_ok-part.ensures
    ∙ slice_of-bounds c.args.literals.now c.args.slices c.args.p _ _
    (subst P c.len.ensures c.bounds-from.ensures))
