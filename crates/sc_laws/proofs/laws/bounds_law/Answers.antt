use Rattle.sc_laws.proofs.AgreeLemmas.{bounds_are_same}
use Rattle.sc_laws.proofs.laws.bounds_law.Goals as goal

pub returns : goal.returns
returns c = bounds_are_same
