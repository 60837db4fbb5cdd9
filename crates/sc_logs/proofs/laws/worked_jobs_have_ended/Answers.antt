use Rattle.sc_logs.proofs.EndLemmas as endings
use Rattle.sc_logs.proofs.laws.worked_jobs_have_ended.Goals as goal

pub returns : goal.returns
returns c = endings.worked_jobs_have_ended
