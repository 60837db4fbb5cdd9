use Rattle.sc_history.proofs.FreshLemmas as fresh
use Rattle.sc_history.proofs.laws.takes_are_fresh.Goals as goal

pub returns : goal.returns
returns c = fresh.takes_are_fresh
