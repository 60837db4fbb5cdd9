use Rattle.sc_keys.proofs.GroupLemmas.{are_distinct}
use Rattle.sc_keys.proofs.laws.distinct_law.Goals as goal

pub returns : goal.returns
returns c same laws keys = are_distinct same laws keys
