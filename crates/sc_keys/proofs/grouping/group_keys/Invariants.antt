use Rattle.std.proofs.Common.{◌≡◌, ◌≤◌, length, map, take}
use Rattle.sc_keys.specs.Groups.{distinct, groups}
use Rattle.sc_keys.specs.Lent.{lent_data}
use Rattle.sc_part.specs.Bounds.{is_same_key}
use Rattle.sc_value.specs.Views.{key_data_of}
use Rattle.sc_keys.proofs.grouping.group_keys.Given as goal

abbrev pub invariant-loop-i : goal.invariant-loop-i
invariant-loop-i l = record {
  few : length l.known.keys ≤ l.i;
  known : map lent_data l.known.keys
      ≡ distinct is_same_key (take l.i (map key_data_of l.keys));
  numbers : l.numbers.items ≡ groups is_same_key (take l.i (map key_data_of l.keys));
}
