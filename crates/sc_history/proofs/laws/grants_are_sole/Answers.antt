use Rattle.sc_history.proofs.Committed.{grants_are_sole, winners_commit}
use Rattle.sc_history.proofs.laws.grants_are_sole.Goals as goal

pub returns-clause-sole : goal.returns-clause-sole
returns-clause-sole c = grants_are_sole

pub returns-clause-winners : goal.returns-clause-winners
returns-clause-winners c = winners_commit
