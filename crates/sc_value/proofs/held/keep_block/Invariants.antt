use Rattle.std.proofs.Common.{◌≡◌, ◌++◌, ◌≤◌, drop, take, length, min}
use Rattle.sc_value.specs.Kept.{kept}
use Rattle.sc_value.proofs.held.keep_block.Given as goal

abbrev pub invariant-loop-i : goal.invariant-loop-i
invariant-loop-i g l = record {
  before : l.n ≤ l.i;
  room : length l.block.items ≡ min (length l.items) (length l.marks);
  kept : take l.n l.block.items ++ kept (drop l.i l.marks) (drop l.i l.items)
      ≡ kept l.marks l.items;
}
