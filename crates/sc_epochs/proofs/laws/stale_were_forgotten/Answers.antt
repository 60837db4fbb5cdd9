use Rattle.sc_epochs.proofs.BetweenLemmas as between
use Rattle.sc_epochs.proofs.laws.stale_were_forgotten.Goals as goal

pub returns : goal.returns
returns c =
    between.stale_were_forgotten c.worlds_stay_sound.ensures.begins
    c.worlds_stay_sound.ensures.steps
