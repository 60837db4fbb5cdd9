use Rattle.std.proofs.Common.{◌≡◌, map, take}
use Rattle.sc_part.specs.Bounds.{range_of}
use Rattle.sc_value.specs.Keys.{text_key}
use Rattle.sc_keys.proofs.ranges.ranges_of_texts.Given as goal

abbrev pub invariant-loop-i : goal.invariant-loop-i
invariant-loop-i l = l.out.items ≡ map (range_of l.bounds) (map text_key (take l.i l.keys))
