use Rattle.sc_value.specs.Spans.{part_at}
use Rattle.sc_value.proofs.CutPlaces.{AreCutTo-more, AreCutTo-last}
use Rattle.sc_value.proofs.cuts.add_pieces.Goals as goal

pub loop-from-preserved : goal.loop-from-preserved
loop-from-preserved c =
    AreCutTo-more c.args.separator c.args.text.now (part_at c.args.text.now c.args.part)
    c.args.out.now.items c.loop-from.out.items c.push.new.self.items c.loop-from.from
    c.loop-from.len c.args.part.to c.piece_len-len-in-loop-from.result c.requires.ascii
    c.loop-from-test.true c.in_ok-push.ensures.items c.piece_len-len-in-loop-from.ensures.len
    c.loop-from.invariant

pub returns-clause-cut : goal.returns-clause-cut
returns-clause-cut c =
    AreCutTo-last c.args.separator c.args.text.now (part_at c.args.text.now c.args.part)
    c.args.out.now.items c.loop-from.out.items c.push-2.new.self.items c.loop-from.from
    c.loop-from.len c.args.part.to c.loop-from-test.false c.in_ok-push-2.ensures.items
    c.loop-from.invariant
