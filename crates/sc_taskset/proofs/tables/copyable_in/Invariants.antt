use Rattle.std.proofs.Common.{◌≡◌, ◌≤◌, ◌<◌, ◌+◌, ◌-◌, count_by, length, min, take, true}
use Rattle.sc_taskset.specs.Flags.{is_set}
use Rattle.sc_taskset.specs.Looks.{words_for}
use Rattle.sc_taskset.specs.Marks.{is_single_row}
use Rattle.sc_taskset.specs.Paces.{slow_at}
use Rattle.sc_taskset.proofs.MarkLemmas.{NoneCopyableBelow}
use Rattle.sc_taskset.proofs.tables.copyable_in.Given as goal

-- no row before this one may be copied, and of this one an attempt runs alone; each word so far was
-- a step, and each row before this one of which an attempt runs alone
abbrev pub invariant-loop-place : goal.invariant-loop-place
invariant-loop-place g l = record {
  below : NoneCopyableBelow (slow_at l.pace) l.exec l.rows l.place;
  marked : l.place < length l.rows → is_set l.marks.single.items l.place ≡ true;
  steps : l.steps ≤ l.fn.steps + words_for (min (l.place + 1) (length l.rows))
      + count_by is_single_row (take l.place l.rows);
}

abbrev pub decreases-loop-place : goal.decreases-loop-place
decreases-loop-place g l = length l.rows - l.place
