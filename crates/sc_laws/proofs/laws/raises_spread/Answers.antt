use Rattle.sc_laws.proofs.SpreadLemmas.{raises_are_spread}
use Rattle.sc_laws.proofs.laws.raises_spread.Goals as goal

pub returns : goal.returns
returns c = raises_are_spread
