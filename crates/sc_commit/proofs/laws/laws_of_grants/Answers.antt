use Rattle.sc_commit.proofs.LawLemmas.{holders_stay, winners_held, winners_stay}
use Rattle.sc_commit.proofs.laws.laws_of_grants.Goals as goal

pub returns-clause-holders : goal.returns-clause-holders
returns-clause-holders c = holders_stay

pub returns-clause-winners : goal.returns-clause-winners
returns-clause-winners c = winners_held

pub returns-clause-for_good : goal.returns-clause-for_good
returns-clause-for_good c = winners_stay
