use Rattle.sc_laws.proofs.NeverLemmas.{nevers_by_raises}
use Rattle.sc_laws.proofs.laws.nevers_are_by_raises.Goals as goal

pub returns : goal.returns
returns c = nevers_by_raises
