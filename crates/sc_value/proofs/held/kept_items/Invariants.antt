use Rattle.std.proofs.Common.{◌≡◌, ◌++◌, ◌-◌, ◌≤◌, drop}
use Rattle.sc_value.specs.Kept.{kept}
use Rattle.sc_value.proofs.held.kept_items.Given as goal

abbrev pub decreases-loop-from : goal.decreases-loop-from
decreases-loop-from g l = l.end - l.from

abbrev pub invariant-loop-from : goal.invariant-loop-from
invariant-loop-from g l = record {
  within : l.from ≤ l.end;
  kept : l.out.items ++ kept (drop l.from l.marks) (drop l.from l.items) ≡ kept l.marks l.items;
}
