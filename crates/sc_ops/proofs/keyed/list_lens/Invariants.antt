use Rattle.std.proofs.Common.{◌≡◌, map, take}
use Rattle.sc_ops.specs.Given.{item_count}
use Rattle.sc_ops.proofs.keyed.list_lens.Given as goal

abbrev pub invariant-loop-i : goal.invariant-loop-i
invariant-loop-i l = l.lens.items ≡ map item_count (take l.i l.rows)
