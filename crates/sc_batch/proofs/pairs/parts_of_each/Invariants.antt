use Rattle.std.proofs.Common.{◌≡◌, map, take}
use Rattle.sc_expr.specs.Heads.{first_of, second_of}
use Rattle.sc_batch.proofs.pairs.parts_of_each.Given as goal

abbrev pub invariant-loop-i : goal.invariant-loop-i
invariant-loop-i l =
    (l.first ≡ map first_of (take l.i l.rows)) × (l.second ≡ map second_of (take l.i l.rows))
