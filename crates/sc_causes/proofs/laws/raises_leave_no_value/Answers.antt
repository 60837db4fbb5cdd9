use Rattle.sc_causes.proofs.RaiseLemmas as raises
use Rattle.sc_causes.proofs.laws.raises_leave_no_value.Goals as goal

pub returns : goal.returns
returns c = raises.raises_leave_no_value
