use Rattle.std.proofs.Common.{◌≡◌, map, take}
use Rattle.sc_part.specs.Bounds.{range_of}
use Rattle.sc_value.specs.Views.{key_data_of}
use Rattle.sc_keys.proofs.ranges.ranges_of_keys.Given as goal

abbrev pub invariant-loop-i : goal.invariant-loop-i
invariant-loop-i l = l.out.items ≡ map (range_of l.bounds) (map key_data_of (take l.i l.keys))
