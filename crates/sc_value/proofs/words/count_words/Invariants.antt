use Rattle.std.proofs.Common.{◌-◌, length}
use Rattle.sc_value.proofs.WordPlaces.{IsCountTo}
use Rattle.sc_value.proofs.words.count_words.Given as goal

abbrev pub invariant-loop-from : goal.invariant-loop-from
invariant-loop-from l = IsCountTo l.text l.from l.count

abbrev pub decreases-loop-from : goal.decreases-loop-from
decreases-loop-from l = length l.text - l.from
