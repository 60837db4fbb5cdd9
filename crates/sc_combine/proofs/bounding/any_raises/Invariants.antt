use Rattle.std.proofs.Common.{◌≡◌, false, take}
use Rattle.std.specs.List.{list_any}
use Rattle.sc_lineage.specs.Streams.{raises}
use Rattle.sc_combine.proofs.bounding.any_raises.Given as goal

abbrev pub invariant-loop-part : goal.invariant-loop-part
invariant-loop-part l = list_any raises (take l.part-index l.parts) ≡ false
