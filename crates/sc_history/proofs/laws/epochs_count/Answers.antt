use Rattle.sc_history.proofs.TrackerLemmas.{epochs_count as all_counted, steps_count_epochs, steps_track}
use Rattle.sc_history.proofs.laws.epochs_count.Goals as goal

pub returns-clause-steps : goal.returns-clause-steps
returns-clause-steps c = steps_track

pub returns-clause-rises : goal.returns-clause-rises
returns-clause-rises c = steps_count_epochs

pub returns-clause-journals : goal.returns-clause-journals
returns-clause-journals c = all_counted
