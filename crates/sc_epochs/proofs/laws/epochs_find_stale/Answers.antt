use Rattle.sc_epochs.proofs.BogusLemmas.{epochs_find_bogus}
use Rattle.sc_epochs.proofs.ReachLemmas.{find_stale_by}
use Rattle.sc_epochs.proofs.WorldLemmas.{beginnings_find_stale, steps_find_stale}
use Rattle.sc_epochs.proofs.laws.epochs_find_stale.Goals as goal

pub returns-clause-begins : goal.returns-clause-begins
returns-clause-begins c = beginnings_find_stale

pub returns-clause-steps : goal.returns-clause-steps
returns-clause-steps c = steps_find_stale

pub returns-clause-worlds : goal.returns-clause-worlds
returns-clause-worlds c =
    find_stale_by c.worlds_stay_sound.ensures.begins c.worlds_stay_sound.ensures.steps

pub returns-clause-bogus : goal.returns-clause-bogus
returns-clause-bogus c = epochs_find_bogus
