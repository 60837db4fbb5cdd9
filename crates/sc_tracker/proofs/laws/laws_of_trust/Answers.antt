use Rattle.sc_tracker.proofs.TrustLemmas.{bogus_stays_bogus, calls_go_forward, new_tasks_are_trusted, older_tasks_are_bogus}
use Rattle.sc_tracker.proofs.laws.laws_of_trust.Goals as goal

pub returns-clause-forward : goal.returns-clause-forward
returns-clause-forward c = calls_go_forward

pub returns-clause-for_good : goal.returns-clause-for_good
returns-clause-for_good c = bogus_stays_bogus

pub returns-clause-new : goal.returns-clause-new
returns-clause-new c = new_tasks_are_trusted

pub returns-clause-older : goal.returns-clause-older
returns-clause-older c = older_tasks_are_bogus
