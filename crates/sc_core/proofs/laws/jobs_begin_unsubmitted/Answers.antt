use Rattle.sc_core.proofs.UnsubmittedLemmas.{openings_are_submissions}
use Rattle.sc_core.proofs.laws.jobs_begin_unsubmitted.Goals as goal

pub returns : goal.returns
returns c = openings_are_submissions
