use Rattle.sc_bound.proofs.FreedLemmas as freed
use Rattle.sc_bound.proofs.laws.frees_are_bounded.Goals as goal

pub returns-clause-frees : goal.returns-clause-frees
returns-clause-frees c = freed.frees_are_bounded

pub returns-clause-given : goal.returns-clause-given
returns-clause-given c = freed.given_is_bounded
