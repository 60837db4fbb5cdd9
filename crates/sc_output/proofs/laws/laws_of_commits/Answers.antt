use Rattle.sc_base.proofs.SaveLemmas.{saves_keep_apart}
use Rattle.sc_output.proofs.SavedLemmas.{aborted_is_empty, committed_is_saved}
use Rattle.sc_output.proofs.WithinLemmas.{commits_stay_within, stops_leave}
use Rattle.sc_output.proofs.laws.laws_of_commits.Goals as goal

pub returns-clause-saved : goal.returns-clause-saved
returns-clause-saved c = committed_is_saved

pub returns-clause-aborted : goal.returns-clause-aborted
returns-clause-aborted c = aborted_is_empty

pub returns-clause-within : goal.returns-clause-within
returns-clause-within c = commits_stay_within

pub returns-clause-stopped : goal.returns-clause-stopped
returns-clause-stopped c = stops_leave

pub returns-clause-apart : goal.returns-clause-apart
returns-clause-apart c = saves_keep_apart
