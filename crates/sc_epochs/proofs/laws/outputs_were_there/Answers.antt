use Rattle.sc_epochs.proofs.EventLemmas.{opening_apart}
use Rattle.sc_epochs.proofs.WorldApart as worlds
use Rattle.sc_epochs.proofs.laws.outputs_were_there.Goals as goal

pub returns-clause-begins : goal.returns-clause-begins
returns-clause-begins c = opening_apart

pub returns-clause-steps : goal.returns-clause-steps
returns-clause-steps c = worlds.steps_keep_apart

pub returns-clause-worlds : goal.returns-clause-worlds
returns-clause-worlds c =
    worlds.outputs_were_there c.worlds_stay_sound.ensures.begins
    c.worlds_stay_sound.ensures.steps
