use Rattle.sc_bound.proofs.GivenLemmas as given
use Rattle.sc_bound.proofs.laws.bounds_are_kept.Goals as goal

pub returns : goal.returns
returns c = given.bounds_are_kept
