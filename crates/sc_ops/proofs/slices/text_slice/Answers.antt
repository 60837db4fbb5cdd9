use Rattle.std.proofs.Common.{◌∙◌, ℕ, List, ◌≡◌, Some, Bor, ap, sym, subst, map}
use Rattle.std.specs.Option.{option_map}
use Rattle.sc_base.specs.Lists.{content_of}
use Rattle.sc_value.specs.Datum.{text}
use Rattle.sc_value.specs.Lines.{text_lines}
use Rattle.sc_lineage.specs.Narrow.{lines_in}
use Rattle.sc_input.specs.Slices.{slice_of}
use Rattle.sc_lineage.specs.Streams.{whole_stream}
use Rattle.sc_ops.specs.Slices.{AreSliceBounds}
use Rattle.sc_ops.proofs.SliceLemmas.{lines_known, slice_of-bounds}
use Rattle.sc_ops.proofs.slices.text_slice.Goals as goal

pub returns : goal.returns
returns c =
    let P = λ (n : ℕ). AreSliceBounds n c.args.slices c.args.p c.bounds-from.result.0
    c.bounds-from.result.1 in
    let found : Some c.in-Some.lines.now
    ≡ option_map text_lines (content_of c.args.work.now.inputs c.args.input.now) =
    ap (option_map (λ (t : Bor (List (List ℕ))). t.now)) (sym c.in-Some.is) ∙ c.lines.ensures in
    let lines = lines_known c.args.work.now.inputs c.args.input.now c.in-Some.lines.now found in
    let all : c.in_ok-of_texts.field-0
    ≡ map text (slice_of (lines_in c.args.work.now.inputs c.args.input.now) c.args.slices
    c.args.p) =
    c.in_ok-of_texts.ensures ∙ ap (map text) (c.in_ok-part.ensures
    ∙ slice_of-bounds c.in-Some.lines.now c.args.slices c.args.p _ _
    (subst P c.len.ensures c.bounds-from.ensures)
    ∙ ap (λ ls. slice_of ls c.args.slices c.args.p) lines) in
    ap whole_stream all
