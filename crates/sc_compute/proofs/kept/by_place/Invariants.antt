use Rattle.std.proofs.Common.{take}
use Rattle.std.specs.HashMap.{get}
use Rattle.sc_compute.specs.Keeping.{AreOwnRows, same_place}
use Rattle.sc_compute.specs.Needs.{HasJust}
use Rattle.sc_compute.proofs.kept.by_place.Given as goal

abbrev pub invariant-loop-part : goal.invariant-loop-part
invariant-loop-part l = record {
  own : AreOwnRows l.work (get same_place l.rows);
  just : HasJust (get same_place l.rows) (take l.part-index l.parts);
}
