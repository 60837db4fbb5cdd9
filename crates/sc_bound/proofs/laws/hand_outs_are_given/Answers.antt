use Rattle.sc_bound.proofs.HandedLemmas.{handed_is_given}
use Rattle.sc_bound.proofs.laws.hand_outs_are_given.Goals as goal

pub returns : goal.returns
returns c = handed_is_given
