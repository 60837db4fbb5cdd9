use Rattle.sc_epochs.proofs.WorldApart as worlds
use Rattle.sc_epochs.proofs.laws.attempts_are_apart.Goals as goal

pub returns-clause-order : goal.returns-clause-order
returns-clause-order c =
    worlds.attempts_are_apart c.worlds_stay_sound.ensures.begins
    c.worlds_stay_sound.ensures.steps

pub returns-clause-few : goal.returns-clause-few
returns-clause-few c =
    worlds.attempts_are_few c.worlds_stay_sound.ensures.begins
    c.worlds_stay_sound.ensures.steps

pub returns-clause-planned : goal.returns-clause-planned
returns-clause-planned c =
    worlds.attempts_are_planned c.worlds_stay_sound.ensures.begins
    c.worlds_stay_sound.ensures.steps
