use Rattle.sc_keys.proofs.PickLemmas.{picked-range}
use Rattle.sc_keys.proofs.laws.range_law.Goals as goal

pub returns : goal.returns
returns c = picked-range
