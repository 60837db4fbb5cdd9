use Rattle.sc_history.proofs.PostedLemmas as posted
use Rattle.sc_history.proofs.laws.reports_are_posted.Goals as goal

pub returns : goal.returns
returns c = posted.reports_are_posted
