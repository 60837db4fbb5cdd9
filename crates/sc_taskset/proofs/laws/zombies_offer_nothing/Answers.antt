use Rattle.sc_taskset.proofs.LawLemmas.{zombies_nothing}
use Rattle.sc_taskset.proofs.laws.zombies_offer_nothing.Goals as goal

pub returns : goal.returns
returns c = zombies_nothing
