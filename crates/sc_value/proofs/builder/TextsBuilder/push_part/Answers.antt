use Rattle.std.proofs.Common.{ap, arith}
use Rattle.sc_value.specs.Spans.{part_at}
use Rattle.sc_value.proofs.SpanLemmas.{IsOpen-ended, IsOpen-written, texts-pushed}
use Rattle.sc_value.proofs.builder.TextsBuilder.push_part.Goals as goal

pub invariant_of-self-in-Ok : goal.invariant_of-self-in-Ok
invariant_of-self-in-Ok c =
    IsOpen-ended c.append_within.new.bytes.items c.self.inside.spans.items c.push.new.self.items
    (record { from = c.self.inside.open_from; to = c.len-to.result })
    c.in-Ok.ensures.items (omega arith)
    (IsOpen-written c.self.inside.bytes.items c.append_within.new.bytes.items
    (part_at c.args.bytes.now c.args.part)
    c.self.inside.spans.items c.self.inside.open_from _
    c.append_within.ensures.items c.append_within.ensures.within c.requires.utf8 c.self.invariant)

pub returns-in-Ok-clause-texts : goal.returns-in-Ok-clause-texts
returns-in-Ok-clause-texts c =
    texts-pushed c.self.inside.bytes.items c.append_within.new.bytes.items
    (part_at c.args.bytes.now c.args.part)
    c.args.self.now.open_text c.args.self.now.texts
    c.self.inside.spans.items c.push.new.self.items
    (record { from = c.self.inside.open_from; to = c.len-to.result })
    c.in_ok-append_within.ensures.items c.in-Ok.ensures.items (omega arith) c.self.invariant
    (ap (λ w. w.texts) c.self.view_is) (ap (λ w. w.open_text) c.self.view_is)
