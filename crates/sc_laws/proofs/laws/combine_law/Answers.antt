use Rattle.sc_laws.proofs.CombineLemmas.{combines}
use Rattle.sc_laws.proofs.laws.combine_law.Goals as goal

pub returns : goal.returns
returns c = combines
