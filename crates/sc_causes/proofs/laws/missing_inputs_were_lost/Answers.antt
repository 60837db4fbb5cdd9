use Rattle.sc_causes.proofs.InputLemmas as inputs
use Rattle.sc_causes.proofs.laws.missing_inputs_were_lost.Goals as goal

pub returns : goal.returns
returns c = inputs.missing_inputs_were_lost
