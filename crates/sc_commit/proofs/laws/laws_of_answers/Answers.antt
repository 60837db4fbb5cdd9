use Rattle.sc_commit.proofs.LawLemmas.{denied_exactly, granted_holds, over_exactly}
use Rattle.sc_commit.proofs.laws.laws_of_answers.Goals as goal

pub returns-clause-over : goal.returns-clause-over
returns-clause-over c = over_exactly

pub returns-clause-denied : goal.returns-clause-denied
returns-clause-denied c = denied_exactly

pub returns-clause-granted : goal.returns-clause-granted
returns-clause-granted c = granted_holds
