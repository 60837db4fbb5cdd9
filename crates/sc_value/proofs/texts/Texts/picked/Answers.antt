use Rattle.std.proofs.Common.{◌∙◌, ap, map}
use Rattle.std.proofs.lemmas.Result.{IfOk-weaker}
use Rattle.sc_value.specs.Picked.{picked}
use Rattle.sc_value.specs.Spans.{part_at, IsPart}
use Rattle.sc_value.proofs.PickedLemmas.{All-picked, picked-map}
use Rattle.sc_value.proofs.texts.Texts.picked.Goals as goal

pub of_spans-requires : goal.of_spans-requires
of_spans-requires c = rw (c.in_ok-spans.ensures, c.as_slice.ensures, c.in_ok-share.ensures)
    (All-picked (IsPart c.self.inside.bytes) c.self.inside.spans c.args.places.now c.self.invariant)

pub returns : goal.returns
returns c =
    let spans = c.in_ok-spans.ensures ∙ ap (λ s. picked s c.args.places.now) c.as_slice.ensures in
    IfOk-weaker c.of_spans.result _ _ (λ t is. is
    ∙ ap (λ b. map (part_at b) c.in_ok-spans.spans.items) c.in_ok-share.ensures
    ∙ ap (map (part_at c.self.inside.bytes)) spans
    ∙ picked-map (part_at c.self.inside.bytes) c.args.places.now c.self.inside.spans
    ∙ ap (λ s. picked s c.args.places.now) c.self.view_is) c.of_spans.ensures
