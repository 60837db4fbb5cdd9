use Rattle.sc_history.proofs.GivenLemmas.{heard_are_given, running_are_given as all_given}
use Rattle.sc_history.proofs.laws.running_are_given.Goals as goal

pub returns-clause-running : goal.returns-clause-running
returns-clause-running c = all_given

pub returns-clause-heard : goal.returns-clause-heard
returns-clause-heard c = heard_are_given
