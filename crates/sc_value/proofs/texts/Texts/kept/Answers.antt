use Rattle.std.proofs.Common.{◌∙◌, ap, map}
use Rattle.std.proofs.lemmas.Result.{IfOk-weaker}
use Rattle.sc_value.specs.Kept.{kept}
use Rattle.sc_value.specs.Spans.{part_at, IsPart}
use Rattle.sc_value.proofs.KeptLemmas.{All-kept, kept-map}
use Rattle.sc_value.proofs.texts.Texts.kept.Goals as goal

pub of_spans-requires : goal.of_spans-requires
of_spans-requires c = rw (c.in_ok-spans.ensures, c.as_slice.ensures, c.in_ok-share.ensures)
    (All-kept (IsPart c.self.inside.bytes) c.args.marks.now c.self.inside.spans c.self.invariant)

pub returns : goal.returns
returns c =
    let spans = c.in_ok-spans.ensures ∙ ap (kept c.args.marks.now) c.as_slice.ensures in
    IfOk-weaker c.of_spans.result _ _ (λ t is. is
    ∙ ap (λ b. map (part_at b) c.in_ok-spans.spans.items) c.in_ok-share.ensures
    ∙ ap (map (part_at c.self.inside.bytes)) spans
    ∙ kept-map (part_at c.self.inside.bytes) c.args.marks.now c.self.inside.spans
    ∙ ap (kept c.args.marks.now) c.self.view_is) c.of_spans.ensures
