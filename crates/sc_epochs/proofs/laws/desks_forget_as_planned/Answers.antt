use Rattle.sc_epochs.proofs.DeskLaws as desks
use Rattle.sc_epochs.proofs.laws.desks_forget_as_planned.Goals as goal

pub returns-clause-planned : goal.returns-clause-planned
returns-clause-planned c = desks.desks_forget_as_planned

pub returns-clause-again : goal.returns-clause-again
returns-clause-again c = desks.again_goes_forward
