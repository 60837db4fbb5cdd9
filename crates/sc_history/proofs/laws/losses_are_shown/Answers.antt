use Rattle.sc_history.proofs.ToldLosses as told
use Rattle.sc_history.proofs.laws.losses_are_shown.Goals as goal

pub returns : goal.returns
returns c = told.losses_are_shown
