use Rattle.sc_core.proofs.LawLemmas as laws
use Rattle.sc_core.proofs.laws.asks_are_over.Goals as goal

pub returns : goal.returns
returns c = laws.asks_are_over
