use Rattle.std.proofs.Common.{refl, arith, ◌<◌, length}
use Rattle.sc_combine.proofs.SpanLemmas.{spans_more}
use Rattle.sc_combine.proofs.sides.spans_of.Goals as goal

pub loop-j-preserved : goal.loop-j-preserved
loop-j-preserved c =
    let within : c.loop-j.j < length c.args.places.now = omega arith in
    spans_more c.args.places.now c.loop-j.j c.range-from.result c.loop-j.spans.items
    c.push.new.self.items (record { from = c.range-from.result.0; to = c.range-from.result.1 })
    within c.range-from.ensures refl refl c.in_ok-push.ensures.items c.loop-j.invariant
