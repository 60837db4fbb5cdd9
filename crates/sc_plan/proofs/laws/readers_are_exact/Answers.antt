use Rattle.sc_plan.proofs.ReaderLemmas.{exact}
use Rattle.sc_plan.proofs.laws.readers_are_exact.Goals as goal

pub returns : goal.returns
returns c = exact
