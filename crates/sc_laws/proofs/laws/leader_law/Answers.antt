use Rattle.sc_laws.proofs.LeaderLemmas.{leaders_lead}
use Rattle.sc_laws.proofs.laws.leader_law.Goals as goal

pub returns : goal.returns
returns c = leaders_lead
