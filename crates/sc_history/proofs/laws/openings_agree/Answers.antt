use Rattle.sc_history.proofs.OpeningLemmas as openings
use Rattle.sc_history.proofs.laws.openings_agree.Goals as goal

pub returns : goal.returns
returns c = openings.openings_agree
