use Rattle.std.proofs.Common.{sym}
use Rattle.sc_value.specs.Spans.{part_at, IsPart}
use Rattle.sc_value.proofs.SpanLemmas.{All-slice_range, part-map}
use Rattle.sc_value.proofs.texts.Texts.part.Goals as goal

pub invariant_of-result : goal.invariant_of-result
invariant_of-result c = rw (c.in_ok-part.ensures, c.in_ok-bytes.ensures)
    (All-slice_range (IsPart c.self.inside.bytes) c.self.inside.spans c.args.from c.args.to
    c.self.invariant)

pub returns : goal.returns
returns c = rw c.in_ok-bytes.ensures
    (part-map (part_at c.self.inside.bytes) c.self.inside.spans c.in_ok-part.field-0
    c.args.self.now c.args.from c.args.to (sym c.self.view_is) c.in_ok-part.ensures)
