use Rattle.sc_laws.proofs.AgreeLemmas.{skips_agree}
use Rattle.sc_laws.proofs.laws.skip_law.Goals as goal

pub returns : goal.returns
returns c = skips_agree
