use Rattle.std.specs.HashMap.{get}
use Rattle.sc_compute.specs.Keeping.{same_place}
use Rattle.sc_compute.proofs.KeepingLemmas.{just_next, own_next}
use Rattle.sc_compute.proofs.kept.by_place.Goals as goal

pub loop-part-preserved : goal.loop-part-preserved
loop-part-preserved c = record {
  own = own_next (get same_place c.loop-part.rows) (get same_place c.insert.new.self)
      c.args.parts.now c.loop-part.part-index c.part-item.result c.in_ok-share.field-0
      c.loop-part-test.true c.part-item.is c.in_ok-share.ensures c.in_ok-insert.ensures.updates.0
      c.args.work.now c.requires.own c.loop-part.invariant.own;
  just = just_next (get same_place c.loop-part.rows) (get same_place c.insert.new.self)
      c.args.parts.now c.loop-part.part-index c.part-item.result c.in_ok-share.field-0
      c.loop-part-test.true c.part-item.is c.in_ok-share.ensures c.in_ok-insert.ensures.updates.0
      c.loop-part.invariant.just;
}
