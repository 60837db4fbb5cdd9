use Rattle.std.proofs.Common.{◌≡◌, map, take}
use Rattle.sc_value.specs.Views.{key_data_of}
use Rattle.sc_keys.proofs.keyed.Keys.each.Given as goal

abbrev pub invariant-loop-i : goal.invariant-loop-i
invariant-loop-i l = map key_data_of l.out.items ≡ take l.i l.self
