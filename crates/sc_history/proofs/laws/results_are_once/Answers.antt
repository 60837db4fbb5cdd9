use Rattle.sc_history.proofs.ResultLemmas as results
use Rattle.sc_history.proofs.laws.results_are_once.Goals as goal

pub returns : goal.returns
returns c = results.results_are_once
