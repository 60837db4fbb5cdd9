use Rattle.std.proofs.Common.{◌<◌, [], ◌∷◌, length, arith}
use Rattle.sc_value.specs.Words.{cut_at}
use Rattle.sc_value.proofs.ListLemmas.{AreListsTo-more}
use Rattle.sc_value.proofs.cuts.pieces_at.Goals as goal

pub loop-i-preserved : goal.loop-i-preserved
loop-i-preserved c =
    let below : c.loop-i.i < length c.args.places.now = omega arith in
    let items = c.add_pieces.new.out.items in
    let lists = c.push_list.new.lists.items in (
      AreListsTo-more (cut_at (c.args.separator ∷ [])) c.args.text.now c.args.places.now
          c.loop-i.items.items items c.loop-i.lists.items lists
          _ (record { from = c.len-from.result; to = c.len-to.result }) c.loop-i.i
          below (omega arith) (omega arith) c.in_ok-add_pieces.ensures.cut
          c.in_ok-add_pieces.ensures.parts c.in_ok-push_list.ensures.lists c.loop-i.invariant.0,
      omega (arith, c.in_ok-push_list.ensures.within),
    )
