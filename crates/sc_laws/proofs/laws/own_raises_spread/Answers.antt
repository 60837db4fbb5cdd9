use Rattle.sc_laws.proofs.SpreadLemmas.{own_raises_are_spread}
use Rattle.sc_laws.proofs.laws.own_raises_spread.Goals as goal

pub returns : goal.returns
returns c = own_raises_are_spread
