use Rattle.std.proofs.Common.{◌≡◌, ◌<◌, map}
use Rattle.std.specs.List.{All}
use Rattle.sc_base.specs.Lists.{numbers_below}
use Rattle.sc_combine.specs.Deals.{turn_of}
use Rattle.sc_combine.proofs.dealing.turns.Given as goal

abbrev pub invariant-loop-k : goal.invariant-loop-k
invariant-loop-k l =
    (l.out.items ≡ map (turn_of l.m l.n) (numbers_below l.k)) × All (λ b. b < l.n) l.out.items
