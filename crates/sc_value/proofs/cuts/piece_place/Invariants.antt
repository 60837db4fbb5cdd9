use Rattle.sc_value.proofs.CutPlaces.{IsPieceFrom}
use Rattle.sc_value.proofs.cuts.piece_place.Given as goal

abbrev pub invariant-loop-left : goal.invariant-loop-left
invariant-loop-left l = IsPieceFrom l.separator l.text l.first l.from l.end l.k l.left l.len

abbrev pub decreases-loop-left : goal.decreases-loop-left
decreases-loop-left l = l.left
