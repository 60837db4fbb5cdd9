use Rattle.std.proofs.Common.{◌<◌, length, get_or, refl, arith}
use Rattle.std.proofs.lemmas.List.{get_or_default}
use Rattle.std.proofs.lemmas.Option.{slice_get_read}
use Rattle.sc_value.specs.Picked.{picked}
use Rattle.sc_value.proofs.PickedLemmas.{picked_more}
use Rattle.sc_value.proofs.held.picked_items.Goals as goal

pub loop-i-preserved : goal.loop-i-preserved
loop-i-preserved g c =
    let items = c.args.items.now in
    let ps = c.args.places.now in
    let i = c.loop-i.i in
    let within : c.loop-i.i < length c.args.places.now = omega arith in
    let x = c.index-items-place.result in
    picked_more items c.loop-i.out.items c.push.new.self.items (picked items ps) ps i
    (get_or ps i 0) x within (get_or_default ps i 0 _ within)
    (slice_get_read items (length items) (get_or ps i 0) x refl (omega arith)
    c.index-items-place.is)
    c.in_ok-push.ensures.items c.loop-i.invariant
