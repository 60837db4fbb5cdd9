use Rattle.std.proofs.Common.{◌≡◌, ◌≤◌, length, map, take, bytes_eq}
use Rattle.sc_keys.specs.Groups.{distinct, groups}
use Rattle.sc_keys.proofs.grouping.group_slices.Given as goal

abbrev pub invariant-loop-i : goal.invariant-loop-i
invariant-loop-i l = record {
  few : length l.known.keys ≤ l.i;
  known : map (λ k. k.now) l.known.keys ≡ distinct bytes_eq (take l.i l.keys);
  numbers : l.numbers.items ≡ groups bytes_eq (take l.i l.keys);
}
