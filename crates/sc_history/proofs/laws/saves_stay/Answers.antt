use Rattle.sc_history.proofs.SavingLemmas as saving
use Rattle.sc_history.proofs.laws.saves_stay.Goals as goal

pub returns : goal.returns
returns c = saving.saves_stay
