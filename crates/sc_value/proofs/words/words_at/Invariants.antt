use Rattle.std.proofs.Common.{◌≤◌, length}
use Rattle.sc_base.specs.Limits.{count_limit}
use Rattle.sc_value.specs.Words.{words_of}
use Rattle.sc_value.proofs.ListLemmas.{AreListsTo}
use Rattle.sc_value.proofs.words.words_at.Given as goal

abbrev pub invariant-loop-i : goal.invariant-loop-i
invariant-loop-i l = AreListsTo words_of l.text l.places l.items.items l.lists.items l.i
    × (length l.items.items ≤ count_limit)
