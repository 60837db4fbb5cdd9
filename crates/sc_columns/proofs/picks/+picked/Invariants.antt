use Rattle.sc_columns.proofs.PickLemmas.{pairs_in}
use Rattle.sc_columns.proofs.picks.+picked.Given as goal

abbrev pub decreases-picked : goal.decreases-picked
decreases-picked l = pairs_in l.column.now
