use Rattle.std.proofs.Common.{◌≤◌, length, map, take}
use Rattle.sc_keys.proofs.CodedLemmas.{AreKnown}
use Rattle.sc_keys.proofs.CodeLemmas.{Begins}
use Rattle.sc_keys.specs.Codes.{code_and_rest}
use Rattle.sc_keys.proofs.grouping.group_coded.Given as goal

abbrev pub invariant-loop-i : goal.invariant-loop-i
invariant-loop-i l = record {
  few : length l.known.keys ≤ l.i;
  are : AreKnown code_and_rest Begins (take l.i l.keys)
      (map (λ k. (k.0, k.1.now)) l.known.keys) l.numbers.items;
}
