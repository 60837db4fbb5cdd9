use Rattle.sc_jobs.proofs.TrackerLemmas.{changed_trackers_fit, new_trackers_fit, sized_trackers_fit, trackers_fit}
use Rattle.sc_jobs.proofs.laws.laws_of_trackers.Goals as goal

pub returns-clause-fit : goal.returns-clause-fit
returns-clause-fit c = trackers_fit

pub returns-clause-new : goal.returns-clause-new
returns-clause-new c = new_trackers_fit

pub returns-clause-sized : goal.returns-clause-sized
returns-clause-sized c = sized_trackers_fit

pub returns-clause-changed : goal.returns-clause-changed
returns-clause-changed c = changed_trackers_fit
