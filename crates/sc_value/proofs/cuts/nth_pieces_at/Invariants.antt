use Rattle.std.proofs.Common.{[], ◌∷◌}
use Rattle.sc_value.specs.Words.{nth_piece}
use Rattle.sc_value.proofs.ListLemmas.{AreFoundTo}
use Rattle.sc_value.proofs.cuts.nth_pieces_at.Given as goal

abbrev pub invariant-loop-i : goal.invariant-loop-i
invariant-loop-i l =
    AreFoundTo (nth_piece (l.separator ∷ []) l.k) l.text l.places l.out.items l.i
