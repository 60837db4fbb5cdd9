use Rattle.std.proofs.Common.{◌∙◌, ◌/◌, length, ap, sym}
use Rattle.sc_lineage.specs.Streams.{joined_streams}
use Rattle.sc_ops.proofs.GivenLemmas.{joined-raised, joined-both}
use Rattle.sc_ops.proofs.joins.+joined.Goals as goal

pub returns-then-is_some : goal.returns-then-is_some
returns-then-is_some t c =
    let streams = c.args.streams.now in
    joined-raised streams (length streams / 2) c.in_ok-first-in_default.first
    (c.in_ok-first-in_default.ensures ∙ ap joined_streams c.split_at.ensures.front)
    (sym c.if-is_some.ensures)

pub returns-in_ok-concat-in_default : goal.returns-in_ok-concat-in_default
returns-in_ok-concat-in_default t c =
    let streams = c.args.streams.now in
    joined-both streams (length streams / 2) c.in_ok-first-in_default.first
    c.in_ok-second-in_default.second
    c.in_ok-concat-in_default.field-0
    (c.in_ok-first-in_default.ensures ∙ ap joined_streams c.split_at.ensures.front)
    (sym c.if-is_some.ensures)
    (c.in_ok-second-in_default.ensures ∙ ap joined_streams c.split_at.ensures.back)
    c.in_ok-concat-in_default.ensures
