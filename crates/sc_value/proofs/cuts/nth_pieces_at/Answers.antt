use Rattle.std.proofs.Common.{◌<◌, [], ◌∷◌, length, arith}
use Rattle.sc_value.specs.Words.{nth_piece}
use Rattle.sc_value.proofs.ListLemmas.{AreFoundTo-more}
use Rattle.sc_value.proofs.cuts.nth_pieces_at.Goals as goal

pub loop-i-preserved : goal.loop-i-preserved
loop-i-preserved c =
    let below : c.loop-i.i < length c.args.places.now = omega arith in
    AreFoundTo-more (nth_piece (c.args.separator ∷ []) c.args.k) c.args.text.now
    c.args.places.now c.loop-i.out.items c.push.new.self.items _
    (record { from = c.in-Some.from; to = c.in-Some.to }) c.loop-i.i below
    c.in-Some.ensures.piece c.in-Some.ensures.part c.in_ok-push-in-Some.ensures.items
    c.loop-i.invariant
