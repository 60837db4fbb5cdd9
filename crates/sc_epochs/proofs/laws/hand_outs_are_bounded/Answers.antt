use Rattle.sc_epochs.proofs.SurviveLemmas as survive
use Rattle.sc_epochs.proofs.laws.hand_outs_are_bounded.Goals as goal

pub returns : goal.returns
returns c =
    survive.hand_outs_are_bounded c.worlds_stay_sound.ensures.begins
    c.worlds_stay_sound.ensures.steps
