use Rattle.std.proofs.Common.{◌≤◌, length, take}
use Rattle.std.specs.List.{All}
use Rattle.sc_keys.proofs.codes.longest.Given as goal

abbrev pub invariant-loop-i : goal.invariant-loop-i
invariant-loop-i l = All (λ t. length t ≤ l.most) (take l.i l.keys)
