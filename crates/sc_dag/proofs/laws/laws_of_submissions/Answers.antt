use Rattle.sc_dag.proofs.Repeating.{submissions_repeat}
use Rattle.sc_dag.proofs.Looking.{submissions_agree}
use Rattle.sc_dag.proofs.Settling.{submissions_settle}
use Rattle.sc_dag.proofs.laws.laws_of_submissions.Goals as goal

pub returns-clause-one : goal.returns-clause-one
returns-clause-one c = submissions_agree

pub returns-clause-settles : goal.returns-clause-settles
returns-clause-settles c = submissions_settle

pub returns-clause-again : goal.returns-clause-again
returns-clause-again c = submissions_repeat
