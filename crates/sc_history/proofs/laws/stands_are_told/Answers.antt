use Rattle.sc_history.proofs.StandLemmas as stands
use Rattle.sc_history.proofs.laws.stands_are_told.Goals as goal

pub returns : goal.returns
returns c = stands.stands_are_told
