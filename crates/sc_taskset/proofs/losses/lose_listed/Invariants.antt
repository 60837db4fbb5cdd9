use Rattle.std.proofs.Common.{◌≡◌, ◌≤◌, ◌+◌, length, map, take}
use Rattle.sc_taskset.specs.Lists.{IsListOf, is_row_on}
use Rattle.sc_taskset.proofs.LossLemmas.{AreLeft, IsLossOf}
use Rattle.sc_taskset.proofs.losses.lose_listed.Given as goal

-- what is left to be lost stands at the places before this one
abbrev pub invariant-loop-at : goal.invariant-loop-at
invariant-loop-at g l = record {
  within : l.at ≤ length l.places.items;
  listed : IsListOf l.places.items (map (is_row_on l.exec) l.table);
  left : AreLeft l.exec l.redoes (take l.at l.places.items) l.table;
  same : IsLossOf l.exec l.redoes l.fn.table l.table;
  steps : l.steps + l.at ≡ l.fn.steps + length l.fn.places.items;
}

abbrev pub decreases-loop-at : goal.decreases-loop-at
decreases-loop-at g l = l.at
