use Rattle.sc_jobs.proofs.EqualLemmas.{told}
use Rattle.sc_jobs.proofs.jobs.JobPartialEq.eq.Goals as goal

pub returns-clause-same : goal.returns-clause-same
returns-clause-same g c = told c.args.self.now c.args.other.now c.is_same.result c.is_same.ensures
