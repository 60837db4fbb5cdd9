use Rattle.sc_staging.proofs.SaveLemmas.{abort_leaves, commit_saves}
use Rattle.sc_staging.proofs.laws.laws_of_saves.Goals as goal

pub returns-clause-saved : goal.returns-clause-saved
returns-clause-saved c = commit_saves

pub returns-clause-aborted : goal.returns-clause-aborted
returns-clause-aborted c = abort_leaves
