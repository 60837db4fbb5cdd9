use Rattle.std.proofs.Common.{◌≤◌, length, take}
use Rattle.sc_keys.proofs.CodedLemmas.{AreKnown}
use Rattle.sc_keys.specs.Codes.{AreBytes, code}
use Rattle.sc_keys.proofs.grouping.group_narrow.Given as goal

abbrev pub invariant-loop-i : goal.invariant-loop-i
invariant-loop-i l = record {
  few : length l.known.keys ≤ l.i;
  are : AreKnown code AreBytes (take l.i l.keys) l.known.keys l.numbers.items;
}
