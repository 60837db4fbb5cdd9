use Rattle.std.proofs.Common.{◌-◌}
use Rattle.sc_value.proofs.WordPlaces.{IsWordFrom}
use Rattle.sc_value.proofs.words.word_place.Given as goal

abbrev pub invariant-loop-from : goal.invariant-loop-from
invariant-loop-from l = IsWordFrom l.text l.first l.from l.end l.k l.left

abbrev pub decreases-loop-from : goal.decreases-loop-from
decreases-loop-from l = l.end - l.from
