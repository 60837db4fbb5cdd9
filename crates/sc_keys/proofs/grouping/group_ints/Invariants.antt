use Rattle.std.proofs.Common.{◌≡◌, ◌≤◌, length, take, int_eq}
use Rattle.sc_keys.specs.Groups.{distinct, groups}
use Rattle.sc_keys.proofs.grouping.group_ints.Given as goal

abbrev pub invariant-loop-i : goal.invariant-loop-i
invariant-loop-i l = record {
  few : length l.known.keys ≤ l.i;
  known : l.known.keys ≡ distinct int_eq (take l.i l.keys);
  numbers : l.numbers.items ≡ groups int_eq (take l.i l.keys);
}
