use Rattle.std.proofs.Common.{[], ◌∷◌, ◌≤◌, length}
use Rattle.sc_base.specs.Limits.{count_limit}
use Rattle.sc_value.specs.Words.{cut_at}
use Rattle.sc_value.proofs.ListLemmas.{AreListsTo}
use Rattle.sc_value.proofs.cuts.pieces_at.Given as goal

abbrev pub invariant-loop-i : goal.invariant-loop-i
invariant-loop-i l =
    AreListsTo (cut_at (l.separator ∷ [])) l.text l.places l.items.items l.lists.items l.i
    × (length l.items.items ≤ count_limit)
