use Rattle.sc_desk.proofs.AgainLemmas.{again_is_begun, serves_unregistered}
use Rattle.sc_desk.proofs.laws.jobs_begin_again.Goals as goal

pub returns-clause-begun : goal.returns-clause-begun
returns-clause-begun c = again_is_begun

pub returns-clause-serves : goal.returns-clause-serves
returns-clause-serves c = serves_unregistered
