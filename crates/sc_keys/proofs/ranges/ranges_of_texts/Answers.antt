use Rattle.std.proofs.Common.{arith}
use Rattle.std.proofs.lemmas.Option.{get_or_from_slice_get}
use Rattle.sc_part.specs.Bounds.{range_of}
use Rattle.sc_value.specs.Keys.{text_key}
use Rattle.sc_keys.proofs.KeyLemmas.{twice_more}
use Rattle.sc_keys.proofs.ranges.ranges_of_texts.Goals as goal

pub loop-i-preserved : goal.loop-i-preserved
loop-i-preserved c =
    let ks = c.args.keys.now in
    let i = c.loop-i.i in
    let k = c.get.result.now in
    twice_more text_key (range_of c.args.bounds.now) ks i k c.range_of_text.result
    c.loop-i.out.items c.push.new.self.items (omega arith)
    (get_or_from_slice_get ks i k k c.get.ensures) c.range_of_text.ensures.value
    c.loop-i.invariant c.in_ok-push.ensures.items
