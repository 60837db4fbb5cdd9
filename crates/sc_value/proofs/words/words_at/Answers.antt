use Rattle.std.proofs.Common.{◌<◌, length, arith}
use Rattle.sc_value.specs.Words.{words_of}
use Rattle.sc_value.proofs.ListLemmas.{AreListsTo-more}
use Rattle.sc_value.proofs.words.words_at.Goals as goal

pub loop-i-preserved : goal.loop-i-preserved
loop-i-preserved c =
    let below : c.loop-i.i < length c.args.places.now = omega arith in (
      AreListsTo-more words_of c.args.text.now c.args.places.now c.loop-i.items.items
          c.add_words.new.out.items c.loop-i.lists.items c.push_list.new.lists.items _
          (record { from = c.len-from.result; to = c.len-to.result }) c.loop-i.i
          below (omega arith) (omega arith) c.in_ok-add_words.ensures.words
          c.in_ok-add_words.ensures.parts c.in_ok-push_list.ensures.lists c.loop-i.invariant.0,
      omega (arith, c.in_ok-push_list.ensures.within),
    )
