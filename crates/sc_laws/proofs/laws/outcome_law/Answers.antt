use Rattle.sc_laws.proofs.AgreeLemmas.{outcomes_are_same}
use Rattle.sc_laws.proofs.laws.outcome_law.Goals as goal

pub returns : goal.returns
returns c = outcomes_are_same
